use Rattle.std.proofs.Common.{rules}
use Rattle.gu_desk.proofs.seat.Seat.seen.Goals as goal

pub returns : goal.returns
returns g c = search rules
