use Rattle.std.proofs.Common.{rules}
use Rattle.gu_base.proofs.command.Parts.copy.Goals as goal

pub returns : goal.returns
returns c = search rules
