use Rattle.std.proofs.Common.{◌≡◌, take}
use Rattle.std.specs.Prelude.{sum_by}
use Rattle.gu_base.specs.History.{live}
use Rattle.gu_statement.specs.Control.{entry_counts}
use Rattle.gu_statement.proofs.sheet.Sheet.entry_count.Given as goal

-- what stands before this place was counted
abbrev pub invariant-loop-place : goal.invariant-loop-place
invariant-loop-place l =
    let book = l.self.book.now in
    l.total ≡ sum_by (entry_counts book.house book.history l.self.whose) (take l.place book.history)
