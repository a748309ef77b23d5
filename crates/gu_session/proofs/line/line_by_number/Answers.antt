use Rattle.std.proofs.Common.{arith}
use Rattle.std.proofs.lemmas.Grind.{common_steps}
use Rattle.gu_session.proofs.line.line_by_number.Goals as goal

pub returns-else-link-heading-2 : goal.returns-else-link-heading-2
returns-else-link-heading-2 c = grind (arith, common_steps)
