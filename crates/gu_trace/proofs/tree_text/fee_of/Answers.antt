use Rattle.std.proofs.Common.{rules}
use Rattle.gu_trace.proofs.tree_text.fee_of.Goals as goal

pub returns-in-None : goal.returns-in-None
returns-in-None c = search rules
