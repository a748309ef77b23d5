use Rattle.gu_base.specs.SameLaws.{same_command-Decides}
use Rattle.gu_base.proofs.command.Command.is_same.Goals as goal

pub returns : goal.returns
returns c = rw c.eq.ensures (same_command-Decides _ _)
