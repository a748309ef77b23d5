use Rattle.std.proofs.Common.{rules}
use Rattle.gu_base.proofs.command.Parts.from_vec.Goals as goal

pub returns : goal.returns
returns c = search rules
