use Rattle.std.proofs.Common.{◌∙◌, sym}
use Rattle.gu_base.proofs.Words.{rooms_decide, lengths_decide}
use Rattle.gu_base.proofs.cells.CellsOrd.cmp.Goals as goal

pub returns-then-is_ne : goal.returns-then-is_ne
returns-then-is_ne g c =
    rooms_decide _ _ _ _ _ _ _ _ c.self.view_is c.other.view_is c.self.invariant c.other.invariant
    c.by_words-order.ensures (sym c.is_ne.ensures ∙ c.if-is_ne.true)

pub returns : goal.returns
returns g c =
    lengths_decide _ _ _ _ _ _ _ _ _ c.self.view_is c.other.view_is c.self.invariant c.other.invariant
    c.by_words-order.ensures (sym c.is_ne.ensures ∙ c.if-is_ne.false) c.cmp.ensures
