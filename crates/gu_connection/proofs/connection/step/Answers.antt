use Rattle.std.proofs.Common.{rules, ◌≤ℤ◌, pos}
use Rattle.gu_connection.proofs.connection.step.Goals as goal

pub returns-in-Ok-clause-ok : goal.returns-in-Ok-clause-ok
returns-in-Ok-clause-ok c =
    let fits : pos 0 ≤ℤ c.in-Some.moment.nanosecond = search rules in
    (c.in-Some.moment, fits, c.in-Ok.ensures.ok)
