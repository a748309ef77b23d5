use Rattle.std.proofs.Common.{rules}
use Rattle.gu_base.proofs.numbers.Number.new.Goals as goal

pub returns-else-value-ge1 : goal.returns-else-value-ge1
returns-else-value-ge1 c = search rules
