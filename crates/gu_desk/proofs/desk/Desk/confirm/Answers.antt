use Rattle.std.proofs.Common.{rules}
use Rattle.gu_desk.proofs.desk.Desk.confirm.Goals as goal

-- what the journal's seat has seen is durable then
pub returns-clause-kept : goal.returns-clause-kept
returns-clause-kept g c = search rules
