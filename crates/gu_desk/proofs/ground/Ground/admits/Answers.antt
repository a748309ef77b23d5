use Rattle.std.proofs.Common.{rules}
use Rattle.gu_desk.proofs.ground.Ground.admits.Goals as goal

pub returns-then-workers-ge1 : goal.returns-then-workers-ge1
returns-then-workers-ge1 c = search rules
