use Rattle.std.proofs.Common.{take, ◌++◌}
use Rattle.std.specs.Prelude.{flat_map}
use Rattle.gu_base.specs.History.{live}
use Rattle.gu_base.specs.declared.entry.Record.{Record}
use Rattle.gu_statement.specs.Kinds.{fixed_text, made_text}
use Rattle.gu_statement.specs.Writing.{Comes}
use Rattle.gu_statement.proofs.sheet.Sheet.write_agreements.Given as goal

-- the agreements that the changes before this place made were written, behind the fixed ones
abbrev pub invariant-loop-place : goal.invariant-loop-place
invariant-loop-place g l =
    let book = l.self.book.now in
    Comes (g.W.Sink.contents l.fn.writer) l.fn.out.items (g.W.Sink.contents l.writer) l.out.items
    (fixed_text book.house (live book.history) l.self.whose
    ++ flat_map (λ (r : Record). made_text book.house (live book.history) l.self.whose r.number r.command)
    (take l.place (live book.history)))
