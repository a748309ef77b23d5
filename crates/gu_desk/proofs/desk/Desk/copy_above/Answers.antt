use Rattle.std.proofs.Common.{rules}
use Rattle.gu_desk.proofs.desk.Desk.copy_above.Goals as goal

-- a copy makes nothing durable
pub returns-clause-kept : goal.returns-clause-kept
returns-clause-kept g c = search rules
