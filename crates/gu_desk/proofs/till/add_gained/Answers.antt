use Rattle.std.proofs.Common.{rules}
use Rattle.gu_desk.proofs.till.add_gained.Goals as goal

pub returns-in-Ok-Accepted : goal.returns-in-Ok-Accepted
returns-in-Ok-Accepted g c = search rules
