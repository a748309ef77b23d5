use Rattle.std.proofs.Common.{sym, ◌∙◌, ap, arith}
use Rattle.std.specs.Prelude.{string_bytes, flat_map}
use Rattle.gu_base.specs.History.{live}
use Rattle.gu_base.specs.declared.house.Account.{Account}
use Rattle.gu_trace.specs.Totals.{position_in}
use Rattle.gu_trace.proofs.Texts.{written, is_there}
use Rattle.gu_trace.proofs.day_totals.append_positions.Goals as goal
use Rattle.gu_trace.proofs.day_totals.append_positions.Goals.{in-Some+in_ok-append_account-in-Some, in-None}

pub loop-place-preserved : goal.loop-place-preserved
loop-place-preserved c =
    let book = c.args.book.now in
    let f = λ (a : Account). flat_map (position_in (live book.history) a) book.house.instruments in
    let at = sym (rw c.house-house.ensures at c.account_at.ensures) in
    elim c.match-account_at.branch [
      | in-Some+in_ok-append_account-in-Some w ↦
          written f book.house.accounts c.loop-place.place _ (string_bytes c.loop-place.text) _ _ (at ∙ w.in-Some.is)
          (ap string_bytes w.text-is ∙ w.in_ok-append_account-in-Some.ensures) c.loop-place.invariant
      | in-None w ↦
          let count = rw c.house-house.ensures at c.account_count-place-end.ensures in
          absurd (is_there book.house.accounts c.loop-place.place (omega (arith, count)) (at ∙ w.in-None.is))
    ]
