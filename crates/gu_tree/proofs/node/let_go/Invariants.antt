use Rattle.gu_tree.proofs.node.let_go.Given as goal
use Rattle.std.proofs.Common.{vec_len}

abbrev pub decreases-loop-parts : goal.decreases-loop-parts
decreases-loop-parts g l = vec_len l.parts
