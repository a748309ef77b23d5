use Rattle.std.proofs.Common.{sym, ◌∙◌, ap, arith}
use Rattle.std.specs.Prelude.{string_bytes}
use Rattle.gu_base.specs.History.{live}
use Rattle.gu_trace.specs.Totals.{position_in}
use Rattle.gu_trace.proofs.Texts.{written, is_there}
use Rattle.gu_trace.proofs.day_totals.append_account.Goals as goal
use Rattle.gu_trace.proofs.day_totals.append_account.Goals.{in-Some+in_ok-append_position-in-Some, in-None}

pub loop-place-preserved : goal.loop-place-preserved
loop-place-preserved c =
    let book = c.args.book.now in
    let f = position_in (live book.history) c.args.account.now in
    let at = sym (rw c.house-house.ensures at c.instrument_at.ensures) in
    elim c.match-instrument_at.branch [
      | in-Some+in_ok-append_position-in-Some w ↦
          written f book.house.instruments c.loop-place.place _ (string_bytes c.loop-place.text) _ _ (at ∙ w.in-Some.is)
          (ap string_bytes w.text-is ∙ w.in_ok-append_position-in-Some.ensures) c.loop-place.invariant
      | in-None w ↦
          let count = rw c.house-house.ensures at c.instrument_count-place-end.ensures in
          absurd (is_there book.house.instruments c.loop-place.place (omega (arith, count)) (at ∙ w.in-None.is))
    ]
