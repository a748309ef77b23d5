use Rattle.std.proofs.Common.{◌≡◌, take}
use Rattle.std.specs.Prelude.{sum_by}
use Rattle.gu_base.specs.History.{live}
use Rattle.gu_statement.specs.Control.{hop_counts}
use Rattle.gu_statement.proofs.sheet.Sheet.hop_count.Given as goal

-- what stands before this place was counted
abbrev pub invariant-loop-place : goal.invariant-loop-place
invariant-loop-place l =
    let book = l.self.book.now in
    l.total ≡ sum_by (hop_counts book.house (live book.history) l.self.whose) (take l.place (live book.history))
