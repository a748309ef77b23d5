use Rattle.std.proofs.Common.{rules}
use Rattle.gu_parties.proofs.house.House.account.Goals as goal

pub returns : goal.returns
returns c = search rules
