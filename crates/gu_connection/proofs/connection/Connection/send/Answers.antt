use Rattle.std.proofs.Common.{rules}
use Rattle.gu_connection.proofs.connection.Connection.send.Goals as goal

pub returns-clause-out : goal.returns-clause-out
returns-clause-out c = search rules
