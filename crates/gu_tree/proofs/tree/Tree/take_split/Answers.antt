use Rattle.gu_tree.proofs.tree.Tree.take_split.Goals as goal
use Rattle.gu_tree.proofs
use proofs.Edits.{lesser_tree, named_cut, some_and}
use proofs.{ShowsLess.unsplit_shows, Vocabulary.{arith, head_of, refl, unsplit_node}}

pub returns-clause-node : goal.returns-clause-node
returns-clause-node g c = rw (c.as_slice.ensures.value, c.self.view_is) at c.unsplit_at.ensures.node

pub invariant_of-self : goal.invariant_of-self
invariant_of-self g c =
    let (v, led, _) = some_and _ _ c.requires in
    lesser_tree unsplit_node _ _ v led _ (omega arith) (λ name. named_cut name (head_of v) v refl) (λ held. held)
    (returns-clause-node g c) (rw c.self.view_is at c.self.invariant)

pub returns-clause-shows : goal.returns-clause-shows
returns-clause-shows g c =
    let (v, led, can) = some_and _ _ c.requires in
    unsplit_shows _ _ v _ led can (rw c.self.view_is at c.self.invariant).once (returns-clause-node g c)
