use Rattle.std.proofs.Common.{ℕ, take}
use Rattle.std.specs.Prelude.{flat_map}
use Rattle.gu_base.specs.History.{live}
use Rattle.gu_base.specs.declared.house.Agreement.{Agreement}
use Rattle.gu_base.specs.declared.house.Pair.{Pair}
use Rattle.gu_statement.specs.Kinds.{agreement_text}
use Rattle.gu_statement.specs.Writing.{Comes}
use Rattle.gu_statement.proofs.sheet.Sheet.write_fixed.Given as goal

-- the agreements before this place were written
abbrev pub invariant-loop-place : goal.invariant-loop-place
invariant-loop-place g l =
    Comes (g.W.Sink.contents l.initial.writer) l.initial.out.items (g.W.Sink.contents l.writer) l.out.items
    (flat_map (λ (e : Pair × Agreement).
    agreement_text l.self.book.now.house (live l.self.book.now.history) l.self.whose 0 e.0.giver e.0.taker)
    (take l.place l.self.book.now.house.agreements))
