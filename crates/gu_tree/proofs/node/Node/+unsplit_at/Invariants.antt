use Rattle.gu_tree.proofs.node.Node.+unsplit_at.Given as goal
use Rattle.std.proofs.Common.{length}

abbrev pub decreases-unsplit_at : goal.decreases-unsplit_at
decreases-unsplit_at g l = length l.path.now
