use Rattle.std.proofs.Common.{inr, rules}
use Rattle.gu_session.specs.Steps.{time_of}
use Rattle.gu_connection.proofs.connection.Connection.log_out.Goals as goal

pub returns-in-Ok-clause-out : goal.returns-in-Ok-clause-out
returns-in-Ok-clause-out g c =
    inr (c.in-Some.firm, time_of c.in-Some-now.moment, search rules, search rules)
