use Rattle.std.proofs.Common.{rules}
use Rattle.gu_message.proofs.split.read_any.Goals as goal

pub returns : goal.returns
returns c = search rules
