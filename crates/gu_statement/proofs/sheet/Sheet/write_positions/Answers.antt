use Rattle.std.proofs.Common.{sym, ◌∙◌, arith, ℕ, List}
use Rattle.gu_statement.specs.Kinds.{account_text}
use Rattle.gu_base.specs.History.{live}
use Rattle.gu_statement.proofs.Coming.{then, same, taken, is_there}
use Rattle.gu_statement.proofs.sheet.Sheet.write_positions.Goals as goal
use Rattle.gu_statement.proofs.sheet.Sheet.write_positions.Goals.{in-Some+in_ok-write_account-in-Some, in-None}

pub loop-place-preserved : goal.loop-place-preserved
loop-place-preserved g c =
    let book = c.args.self.now.book.now in
    let f = account_text book.house (live book.history) c.args.self.now.whose in
    let at = sym (rw c.house-house.ensures at c.account_at.ensures) in
    elim c.match-account_at.branch [
      | in-Some+in_ok-write_account-in-Some w ↦
          rw (w.out-is, w.writer-is)
          (same _ _ _ _ _ _ (taken f book.house.accounts c.loop-place.place _ (at ∙ w.in-Some.is))
          (then _ _ _ _ _ _ _ _ c.loop-place.invariant w.in_ok-write_account-in-Some.ensures))
      | in-None w ↦
          let count = rw c.house-house.ensures at c.account_count-place-end.ensures in
          absurd (is_there book.house.accounts c.loop-place.place (omega (arith, count, c.loop-place-test.true))
          (at ∙ w.in-None.is))
    ]
