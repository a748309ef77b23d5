use Rattle.gu_tree.proofs.tree.Tree.take_decision.Goals as goal
use Rattle.gu_tree.proofs
use proofs.Edits.{at_there, lesser_tree, named_cut, some_and}
use proofs.ShowsLess.{decided_leaf, decided_moves, has_stand, stand_there, taken_shows}
use proofs.Vocabulary.{arith, head_of, IsLeaf, offer_node, refl}
use Rattle.gu_tree.specs.Changes.{offered_head}

pub path-requires : goal.path-requires
path-requires g c =
    let (v, led, decided) = some_and _ _ c.requires.decided in
    rw c.as_slice-steps.ensures.value
    (has_stand c.args.stand _ _ _ led decided (rw c.self.view_is at c.self.invariant).root)

pub at-requires : goal.at-requires
at-requires g c =
    let (v, led, _) = some_and _ _ c.requires.decided in
    let u = stand_there c.args.stand c.args.path.now.items c.args.self.now v led in
    rw (c.path.ensures, c.as_slice-steps.ensures.value, c.self.view_is, u.1) refl

pub offer_at-requires : goal.offer_at-requires
offer_at-requires g c =
    let (v, led, decided) = some_and _ _ c.requires.decided in
    rw (c.as_slice-steps.ensures.value, c.self.view_is)
    (at_there IsLeaf _ v led (decided_leaf c.args.stand v decided).0)

pub returns-clause-node : goal.returns-clause-node
returns-clause-node g c =
    at_there _ _ c.at.result.now (rw (c.path.ensures, c.as_slice-steps.ensures.value, c.self.view_is) at c.at.ensures)
    (rw (c.as_slice-steps.ensures.value, c.self.view_is, c.head.ensures.head) at c.offer_at.ensures.node)

pub invariant_of-self : goal.invariant_of-self
invariant_of-self g c =
    let (v, led, decided) = some_and _ _ c.requires.decided in
    let place = (head_of c.at.result.now).place in
    lesser_tree (offer_node place) _ _ v led _ (omega arith)
    (λ name. named_cut name (offered_head place (head_of v)) v refl)
    (λ held. absurd (decided_moves c.args.stand v decided held.0))
    (rw (c.as_slice-steps.ensures.value, c.self.view_is, c.head.ensures.head) at c.offer_at.ensures.node)
    (rw c.self.view_is at c.self.invariant)

pub returns-clause-shows : goal.returns-clause-shows
returns-clause-shows g c =
    let (v, led, decided) = some_and _ _ c.requires.decided in
    let is = rw c.self.view_is at c.self.invariant in
    taken_shows c.args.stand _ _ v c.at.result.now _ (has_stand c.args.stand _ _ _ led decided is.root) led
    (rw (c.path.ensures, c.as_slice-steps.ensures.value, c.self.view_is) at c.at.ensures) decided is.once
    (rw (c.as_slice-steps.ensures.value, c.self.view_is, c.head.ensures.head) at c.offer_at.ensures.node)
