use Rattle.std.proofs.Common.{rules}
use Rattle.gu_connection.proofs.worker.expire.Goals as goal

pub returns-in_default-clause-open : goal.returns-in_default-clause-open
returns-in_default-clause-open g c = search rules
