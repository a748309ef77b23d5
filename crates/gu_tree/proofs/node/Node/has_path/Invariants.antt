use Rattle.gu_tree.proofs.node.Node.has_path.Given as goal
use Rattle.gu_tree.proofs.Vocabulary.{drop, node_at, ◌≡◌}

abbrev pub invariant-loop-i : goal.invariant-loop-i
invariant-loop-i g l = node_at (drop l.i-index l.path) l.node ≡ node_at l.path l.self
