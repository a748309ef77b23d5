use Rattle.std.proofs.Common.{◌∙◌, sym}
use Rattle.gu_base.proofs.Words.{front_decides, rest_decides}
use Rattle.gu_base.proofs.cells.by_words.Goals as goal

pub returns-then-is_ne : goal.returns-then-is_ne
returns-then-is_ne c =
    let w = c.in-Some-Some in
    front_decides 8 _ _ _ _ _ w.ensures.cases.0 w.ensures'.cases.0 c.by_word-order.ensures
    (sym c.is_ne.ensures ∙ c.if-is_ne.true)
    ∙ c.words.invariant

pub words-preserved : goal.words-preserved
words-preserved c =
    let w = c.in-Some-Some in
    rest_decides 8 _ _ _ _ _ _ _ w.ensures.cases.0 w.ensures'.cases.0 w.ensures.cases.1 w.ensures'.cases.1
    c.by_word-order.ensures (sym c.is_ne.ensures ∙ c.if-is_ne.false)
    ∙ c.words.invariant
