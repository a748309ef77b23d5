use Rattle.std.proofs.Common.{rules}
use Rattle.gu_base.proofs.numbers.Lots.new.Goals as goal

pub invariant_of-result : goal.invariant_of-result
invariant_of-result c = search rules

pub returns-then-value-le-MAX : goal.returns-then-value-le-MAX
returns-then-value-le-MAX c = search rules
