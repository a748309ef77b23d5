use Rattle.std.proofs.Common.{rules}
use Rattle.gu_base.proofs.refusal.Refusal.number.Goals as goal

pub returns-in-BookFull-clause-value : goal.returns-in-BookFull-clause-value
returns-in-BookFull-clause-value c = search rules
