use Rattle.std.proofs.Common.{rules}
use Rattle.gu_base.proofs.command.PartPartialEq.eq.Goals as goal

pub returns-then-eq : goal.returns-then-eq
returns-then-eq c = search rules
