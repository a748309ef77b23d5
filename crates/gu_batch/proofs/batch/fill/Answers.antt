use Rattle.std.proofs.Common.{rules}
use Rattle.gu_batch.proofs.batch.fill.Goals as goal

pub returns-then-eq-clause-fills : goal.returns-then-eq-clause-fills
returns-then-eq-clause-fills g c = search rules

pub returns-else-eq-clause-fills : goal.returns-else-eq-clause-fills
returns-else-eq-clause-fills g c = search rules
