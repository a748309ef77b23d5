use Rattle.std.proofs.Common.{rules}
use Rattle.gu_parties.proofs.house.House.agreement_at.Goals as goal

pub returns : goal.returns
returns c = search rules
