use Rattle.std.proofs.Common.{refl}
use Rattle.gu_connection.proofs.worker.Worker.tick.Goals as goal

pub returns-in-Ok-clause-ticks : goal.returns-in-Ok-clause-ticks
returns-in-Ok-clause-ticks g c = (refl, c.in-Ok.ensures.ticks c.args.seat)

pub returns-in-Err-clause-breaks : goal.returns-in-Err-clause-breaks
returns-in-Err-clause-breaks g c = c.in-Err.ensures.breaks c.args.seat
