use Rattle.std.proofs.Common.{subst}
use Rattle.gu_command.specs.Lines.{Makes}
use Rattle.gu_command.proofs.line.with_command.Goals as goal

pub returns-in-Ok-command : goal.returns-in-Ok-command
returns-in-Ok-command c app lower h k =
    c.with_below.ensures app lower (subst (Makes app) c.in-Ok-command.is h) (subst (Makes lower) c.in-Ok.is k)
