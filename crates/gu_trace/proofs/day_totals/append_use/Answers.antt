use Rattle.std.proofs.Common.{arith}
use Rattle.std.proofs.lemmas.Grind.{common_steps}
use Rattle.gu_trace.proofs.day_totals.append_use.Goals as goal

pub returns : goal.returns
returns c = grind (arith, common_steps)
