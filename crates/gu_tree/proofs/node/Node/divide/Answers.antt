use Rattle.gu_tree.proofs.node.Node.divide.Goals as goal
use Rattle.gu_tree.proofs.{Splits.divided_parts, Vocabulary.◌∙◌}

pub invariant_of-self : goal.invariant_of-self
invariant_of-self g c =
    divided_parts _ _ _ c.args.entry c.args.parts.now _ (c.self.view_is ∙ c.in_ok-leaves.ensures.same) c.requires.leaf
    c.fill.ensures c.requires.some c.requires.most
