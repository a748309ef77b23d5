use Rattle.std.proofs.Common.{rules}
use Rattle.gu_batch.proofs.batch.end_of.Goals as goal

pub returns-else-held-eq0 : goal.returns-else-held-eq0
returns-else-held-eq0 c = search rules
