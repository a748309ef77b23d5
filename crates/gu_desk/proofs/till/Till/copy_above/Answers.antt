use Rattle.std.proofs.Common.{arith}
use Rattle.std.proofs.lemmas.Grind.{common_steps}
use Rattle.gu_desk.proofs.till.Till.copy_above.Goals as goal

-- the copies are of what stands above what is durable
pub returns-clause-value : goal.returns-clause-value
returns-clause-value g c = grind (arith, common_steps)
