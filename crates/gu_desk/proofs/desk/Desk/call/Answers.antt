use Rattle.std.proofs.Common.{rules}
use Rattle.gu_desk.proofs.desk.Desk.call.Goals as goal

pub returns-clause-answered : goal.returns-clause-answered
returns-clause-answered g c = search rules

pub returns-clause-seen : goal.returns-clause-seen
returns-clause-seen g c = search rules

pub returns-clause-share : goal.returns-clause-share
returns-clause-share g c = search rules
