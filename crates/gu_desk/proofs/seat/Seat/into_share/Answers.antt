use Rattle.std.proofs.Common.{rules}
use Rattle.gu_desk.proofs.seat.Seat.into_share.Goals as goal

pub returns-clause-begins : goal.returns-clause-begins
returns-clause-begins g c = search rules
