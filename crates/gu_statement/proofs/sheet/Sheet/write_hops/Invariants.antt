use Rattle.std.proofs.Common.{take}
use Rattle.std.specs.Prelude.{flat_map}
use Rattle.gu_base.specs.History.{live}
use Rattle.gu_statement.specs.Kinds.{hop_text}
use Rattle.gu_statement.specs.Writing.{Comes}
use Rattle.gu_statement.proofs.sheet.Sheet.write_hops.Given as goal

-- the hops of the changes before this place were written
abbrev pub invariant-loop-place : goal.invariant-loop-place
invariant-loop-place g l =
    let book = l.self.book.now in
    Comes (g.W.Sink.contents l.initial.writer) l.initial.out.items (g.W.Sink.contents l.writer) l.out.items
    (flat_map (hop_text book.house (live book.history) l.self.whose) (take l.place (live book.history)))
