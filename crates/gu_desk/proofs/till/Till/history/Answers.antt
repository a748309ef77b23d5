use Rattle.std.proofs.Common.{rules}
use Rattle.gu_desk.proofs.till.Till.history.Goals as goal

pub returns-clause-value : goal.returns-clause-value
returns-clause-value g c = search rules
