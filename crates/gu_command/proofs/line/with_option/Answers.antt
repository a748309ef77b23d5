use Rattle.std.proofs.Common.{subst}
use Rattle.gu_command.specs.Lines.{Makes}
use Rattle.gu_command.proofs.line.with_option.Goals as goal

pub returns-in-Ok : goal.returns-in-Ok
returns-in-Ok c app h = c.with_argument.ensures app (subst (Makes app) c.in-Ok.is h)
