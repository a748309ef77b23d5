use Rattle.gu_tree.proofs.tree.Tree.decide.Goals as goal
use Rattle.gu_tree.proofs
use proofs.Edits.{at_fact, height_of_with_head, lesser_tree, named_with_head, some_and}
use proofs.{ShowsChanges.decision_shows, Vocabulary.{arith, decide_node, head_of, IsLeaf, refl}}
use Rattle.gu_tree.specs.Changes.{decided_head}

pub returns-clause-node : goal.returns-clause-node
returns-clause-node g c = rw (c.as_slice.ensures.value, c.self.view_is) at c.decide_at.ensures.node

pub invariant_of-self : goal.invariant_of-self
invariant_of-self g c =
    let (v, led, offered) = some_and _ _ c.requires in
    let h = decided_head c.args.number c.args.decision.now (head_of v) in
    lesser_tree (decide_node c.args.number c.args.decision.now) _ _ v led _ (omega (arith, height_of_with_head h v))
    (λ name. omega (arith, named_with_head name h v refl)) (λ held. absurd (cc (held.0, offered)))
    (returns-clause-node g c) (rw c.self.view_is at c.self.invariant)

pub returns-clause-shows : goal.returns-clause-shows
returns-clause-shows g c =
    let (v, led, offered) = some_and _ _ c.requires in
    let ends = at_fact IsLeaf _ _ led (rw (c.as_slice.ensures.value, c.self.view_is) at c.decide_at.ensures.leaf) in
    decision_shows _ _ v _ c.args.number c.args.decision.now led ends offered
    (rw c.self.view_is at c.self.invariant).once (returns-clause-node g c)
