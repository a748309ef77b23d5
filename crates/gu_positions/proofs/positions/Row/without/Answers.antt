use Rattle.std.proofs.Common.{rules}
use Rattle.gu_positions.proofs.positions.Row.without.Goals as goal

pub returns-in-Sell : goal.returns-in-Sell
returns-in-Sell c = search rules
