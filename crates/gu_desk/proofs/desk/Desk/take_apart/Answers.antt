use Rattle.std.proofs.Common.{arith}
use Rattle.gu_desk.proofs.Workers.{one_at_least}
use Rattle.gu_desk.proofs.desk.Desk.take_apart.Goals as goal

-- there are as many seats as workers, of whom a desk has one at least
pub returns-clause-some : goal.returns-clause-some
returns-clause-some g c =
    omega (arith, c.if-len-self.false, c.len.ensures, one_at_least c.self.inside.workers c.self.invariant.1)
