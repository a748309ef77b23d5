use Rattle.std.proofs.Common.{rules}
use Rattle.gu_base.proofs.numbers.Number.at_place.Goals as goal

pub returns : goal.returns
returns c = search rules
