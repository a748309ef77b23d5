use Rattle.std.proofs.Common.{◌≡◌, take}
use Rattle.std.specs.Prelude.{sum_by}
use Rattle.gu_base.specs.History.{live}
use Rattle.gu_statement.specs.Control.{lots_at}
use Rattle.gu_statement.proofs.sheet.Sheet.instrument_lots.Given as goal

-- what stands before this place was counted
abbrev pub invariant-loop-place : goal.invariant-loop-place
invariant-loop-place l =
    let book = l.self.book.now in
    l.total ≡ sum_by (lots_at (live book.history) l.side l.account) (take l.place book.house.instruments)
