use Rattle.std.proofs.Common.{rules}
use Rattle.gu_desk.proofs.Moves.{settles}
use Rattle.gu_desk.proofs.count.settle.Goals as goal

pub load-requires : goal.load-requires
load-requires c = (search rules, search rules, settles _ _ _)
