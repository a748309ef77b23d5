use Rattle.std.specs.Prelude.{is_some}
use Rattle.gu_connection.specs.Standing.{stands}
use Rattle.gu_connection.specs.Talks.{Idles}
use Rattle.gu_connection.specs.declared.worker.Left.TheVariants.{Late}
use Rattle.gu_connection.proofs.Closing.{at_once}
use Rattle.gu_connection.proofs.Talking.{unspent}
use Rattle.gu_connection.proofs.worker.Worker.late.Goals as goal

pub returns-then-is_late-clause-closes : goal.returns-then-is_late-clause-closes
returns-then-is_late-clause-closes g c =
    at_once c.idle.result.1 c.args.self.now.house.now.house g.J.Job.opening
    (stands c.args.seat c.args.connection.now) (stands c.idle.result.0 c.idle.new.connection) c.idle.ensures.breaks

pub returns-then-is_late-clause-unspent : goal.returns-then-is_late-clause-unspent
returns-then-is_late-clause-unspent g c =
    let idles : Type 0 =
    Idles g.J.Job.opening (stands c.args.seat c.args.connection.now) (stands c.idle.result.0 c.idle.new.connection) in
    unspent c.idle.result.1 (is_some c.args.span) Late idles tt c.idle.ensures.idles
