use Rattle.gu_tree.proofs.node.Node.+decide_at.Goals as goal
use Rattle.gu_tree.proofs.{Parts.{goes_parted, lots_edited, lots_of_with_head}, Vocabulary.decide_node}

pub invariant_of-self-2 : goal.invariant_of-self-2
invariant_of-self-2 g t c =
    goes_parted _ c.in-Some.ensures.cases.0 (rw c.in-Parted.is at c.self.view_is) _ _ _ c.requires
    c.index_mut.ensures.value (lots_edited (decide_node c.args.number c.args.decision.now)
    (λ v. lots_of_with_head _ v) _ _ c.decide_at.ensures.node) (rw c.in-Parted.is at c.self.invariant)
