use Rattle.gu_tree.proofs.node.Node.+decide_at.Given as goal
use Rattle.std.proofs.Common.{length}

abbrev pub decreases-decide_at : goal.decreases-decide_at
decreases-decide_at g l = length l.path.now
