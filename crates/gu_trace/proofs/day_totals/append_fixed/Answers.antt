use Rattle.std.proofs.Common.{sym, ◌∙◌, ap, arith}
use Rattle.std.specs.Prelude.{string_bytes}
use Rattle.gu_base.specs.History.{live}
use Rattle.gu_trace.specs.Totals.{fixed_line}
use Rattle.gu_trace.proofs.Texts.{written, is_there}
use Rattle.gu_trace.proofs.day_totals.append_fixed.Goals as goal
use Rattle.gu_trace.proofs.day_totals.append_fixed.Goals.{in-Some+in_ok-append_use-in-Some, in-None}

pub loop-place-preserved : goal.loop-place-preserved
loop-place-preserved c =
    let book = c.args.book.now in
    let f = fixed_line book.house (live book.history) in
    let at = sym (rw c.house-house.ensures at c.agreement_at.ensures) in
    elim c.match-agreement_at.branch [
      | in-Some+in_ok-append_use-in-Some w ↦
          written f book.house.agreements c.loop-place.place _ (string_bytes c.loop-place.text) _ _ (at ∙ w.in-Some.is)
          (ap string_bytes w.text-is ∙ w.in_ok-append_use-in-Some.ensures) c.loop-place.invariant
      | in-None w ↦
          let count = rw c.house-house.ensures at c.agreement_count-place-end.ensures in
          absurd (is_there book.house.agreements c.loop-place.place (omega (arith, count)) (at ∙ w.in-None.is))
    ]
