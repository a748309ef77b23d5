use Rattle.gu_tree.proofs.node.Node.+split_at.Given as goal
use Rattle.std.proofs.Common.{length}

abbrev pub decreases-split_at : goal.decreases-split_at
decreases-split_at g l = length l.path.now
