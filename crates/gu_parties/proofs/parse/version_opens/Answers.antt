use Rattle.std.proofs.Common.{rules}
use Rattle.gu_parties.proofs.parse.version_opens.Goals as goal

pub returns-then-eq : goal.returns-then-eq
returns-then-eq c = search rules

pub returns : goal.returns
returns c = search rules
