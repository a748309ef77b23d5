use Rattle.std.proofs.Common.{rules}
use Rattle.gu_positions.proofs.positions.Positions.of.Goals as goal

pub returns : goal.returns
returns c = search rules
