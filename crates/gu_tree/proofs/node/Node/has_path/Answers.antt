use Rattle.gu_tree.proofs.node.Node.has_path.Goals as goal
use Rattle.gu_tree.proofs
use proofs.Parts.{at_beyond, at_leaf, goes_below}
use proofs.{Splits.not_parted, Vocabulary.{add-one, ap, arith, drop-cons, is_some, sym, ◌∙◌}}

pub returns-in_default : goal.returns-in_default
returns-in_default g c =
    let step = drop-cons _ _ 0 c.loop-i-test.true in
    let leaf = not_parted c.node.inside.head c.node.inside.kind c.in_default.not-Parted ∙ c.node.view_is in
    ap is_some (sym (at_leaf step leaf) ∙ c.loop-i.invariant)

pub returns-then-place-len : goal.returns-then-place-len
returns-then-place-len g c =
    let step = drop-cons _ _ 0 c.loop-i-test.true in
    let none = at_beyond c.in-Parted.parts.items step (rw c.in-Parted.is at c.node.view_is) (omega arith) in
    ap is_some (sym none ∙ c.loop-i.invariant)

pub loop-i-preserved : goal.loop-i-preserved
loop-i-preserved g c =
    let step = drop-cons _ _ 0 c.loop-i-test.true in
    let opened = rw c.in-Parted.is at c.node.view_is in
    rw add-one (sym (goes_below _ step opened (omega arith) _ c.index-node.ensures) ∙ c.loop-i.invariant)
