use Rattle.std.proofs.Common.{rules}
use Rattle.gu_desk.proofs.till.Till.read.Goals as goal

pub returns-clause-begins : goal.returns-clause-begins
returns-clause-begins g c = search rules

pub returns-clause-seen : goal.returns-clause-seen
returns-clause-seen g c = search rules

pub invariant_of-self : goal.invariant_of-self
invariant_of-self g c = search rules

pub returns-clause-value : goal.returns-clause-value
returns-clause-value g c = search rules

pub returns-clause-each : goal.returns-clause-each
returns-clause-each g c = search rules

pub returns-clause-memory : goal.returns-clause-memory
returns-clause-memory g c = search rules

pub returns-clause-same : goal.returns-clause-same
returns-clause-same g c = search rules
