use Rattle.std.proofs.Common.{sym, ◌∙◌, arith, ℕ, List}
use Rattle.gu_statement.specs.Kinds.{position_text}
use Rattle.gu_base.specs.History.{live}
use Rattle.gu_statement.proofs.Coming.{then, same, taken, is_there}
use Rattle.gu_statement.proofs.sheet.Sheet.write_account.Goals as goal
use Rattle.gu_statement.proofs.sheet.Sheet.write_account.Goals.{in-Some+in_ok-write_position-in-Some, in-None}

pub loop-place-preserved : goal.loop-place-preserved
loop-place-preserved g c =
    let book = c.args.self.now.book.now in
    let f = position_text (live book.history) c.args.account.now in
    let at = sym (rw c.house-house.ensures at c.instrument_at.ensures) in
    elim c.match-instrument_at.branch [
      | in-Some+in_ok-write_position-in-Some w ↦
          rw (w.out-is, w.writer-is)
          (same _ _ _ _ _ _ (taken f book.house.instruments c.loop-place.place _ (at ∙ w.in-Some.is))
          (then _ _ _ _ _ _ _ _ c.loop-place.invariant w.in_ok-write_position-in-Some.ensures))
      | in-None w ↦
          let count = rw c.house-house.ensures at c.instrument_count-place-end.ensures in
          absurd (is_there book.house.instruments c.loop-place.place (omega (arith, count, c.loop-place-test.true))
          (at ∙ w.in-None.is))
    ]
