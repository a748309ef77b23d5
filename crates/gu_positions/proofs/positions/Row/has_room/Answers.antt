use Rattle.std.proofs.Common.{rules}
use Rattle.gu_positions.proofs.positions.Row.has_room.Goals as goal

pub returns : goal.returns
returns c = search rules
