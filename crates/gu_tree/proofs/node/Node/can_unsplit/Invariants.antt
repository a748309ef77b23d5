use Rattle.gu_tree.proofs.node.Node.can_unsplit.Given as goal
use Rattle.gu_tree.{proofs.Vocabulary.{from_list, take, true, ◌≡◌}, specs.Changes.are_undecided_leaves}

abbrev pub invariant-loop-part : goal.invariant-loop-part
invariant-loop-part g l = are_undecided_leaves (from_list (take l.part-index l.part-items)) ≡ true
