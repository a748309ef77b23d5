use Rattle.gu_tree.proofs.node.Node.+offer_at.Given as goal
use Rattle.std.proofs.Common.{length}

abbrev pub decreases-offer_at : goal.decreases-offer_at
decreases-offer_at g l = length l.path.now
