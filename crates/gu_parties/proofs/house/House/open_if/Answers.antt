use Rattle.std.proofs.Common.{rules}
use Rattle.gu_parties.proofs.house.House.open_if.Goals as goal

pub returns-else-opens : goal.returns-else-opens
returns-else-opens c = search rules
