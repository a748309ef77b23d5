use Rattle.std.proofs.Common.{arith}
use Rattle.std.specs.Prelude.{is_some}
use Rattle.gu_connection.specs.Standing.{stands}
use Rattle.gu_connection.proofs.Closing.{at_end, unread_last}
use Rattle.gu_connection.proofs.Talking.{unspent_wait}
use Rattle.gu_connection.proofs.worker.Worker.read_on.Goals as goal

pub returns-in-Ok-eq0-clause-closes : goal.returns-in-Ok-eq0-clause-closes
returns-in-Ok-eq0-clause-closes g c =
    at_end c.end.result.1 c.args.self.now.house.now.house g.J.Job.opening (g.S.Read.remaining c.args.stream.now)
    (g.S.Read.remaining c.read.new.self) c.in-Ok-eq0.field-0 c.read.new.buf
    (stands c.args.seat c.args.connection.now) (stands c.end.result.0 c.end.new.connection) (omega arith)
    c.in-Ok-eq0.ensures.bytes.0 c.end.ensures.nothing

pub returns-in-Err-clause-closes : goal.returns-in-Err-clause-closes
returns-in-Err-clause-closes g c =
    unread_last c.unread.result.1 c.args.self.now.house.now.house g.J.Job.opening
    (g.S.Read.remaining c.args.stream.now) (g.S.Read.remaining c.read.new.self)
    (stands c.args.seat c.args.connection.now) (stands c.unread.result.0 c.unread.new.connection)
    c.in-Err.ensures.bytes c.unread.ensures.breaks

pub returns-in-Err-clause-unspent : goal.returns-in-Err-clause-unspent
returns-in-Err-clause-unspent g c =
    unspent_wait c.unread.result.1 (is_some c.args.span) g.J.Job.opening (stands c.args.seat c.args.connection.now)
    (stands c.unread.result.0 c.unread.new.connection) c.unread.ensures.waits
