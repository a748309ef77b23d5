use Rattle.std.proofs.Common.{ℕ, List, ◌∷◌, take}
use Rattle.std.specs.Prelude.{flat_map}
use Rattle.gu_base.specs.History.{live}
use Rattle.gu_statement.specs.Kinds.{account_text}
use Rattle.gu_statement.specs.Writing.{Comes}
use Rattle.gu_statement.proofs.sheet.Sheet.write_positions.Given as goal

-- the lines of what stands before this place were written
abbrev pub invariant-loop-place : goal.invariant-loop-place
invariant-loop-place g l =
    let book = l.self.book.now in
    Comes (g.W.Sink.contents l.fn.writer) l.fn.out.items (g.W.Sink.contents l.writer) l.out.items
    (flat_map (account_text book.house (live book.history) l.self.whose)
    (take l.place book.house.accounts))
