use Rattle.gu_tree.proofs.node.Node.+unsplit_at.Goals as goal
use Rattle.gu_tree.proofs.{Parts.{goes_parted, lots_edited}, Vocabulary.{refl, unsplit_node}}

pub invariant_of-self-2 : goal.invariant_of-self-2
invariant_of-self-2 g t c =
    goes_parted _ c.in-Some.ensures.cases.0 (rw c.in-Parted-kind.is at c.self.view_is) _ _ _ c.requires
    c.index_mut.ensures.value (lots_edited unsplit_node (λ v. refl) _ _ c.unsplit_at.ensures.node)
    (rw c.in-Parted-kind.is at c.self.invariant)
