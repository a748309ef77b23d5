use Rattle.std.proofs.Common.{rules}
use Rattle.gu_roll.proofs.More.{has_more, reopened}
use Rattle.gu_roll.proofs.extending.check_has_more.Goals as goal

pub returns-in-None-clause-more : goal.returns-in-None-clause-more
returns-in-None-clause-more c =
    let t = c.args.old.now in
    let u = c.args.new.now in
    has_more t u (c.a_larger_house_keeps_the_history.ensures.test (reopened t u) u) (search rules)
