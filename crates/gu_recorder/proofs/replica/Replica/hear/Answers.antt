use Rattle.std.proofs.Common.{rules}
use Rattle.gu_recorder.proofs.replica.Replica.hear.Goals as goal

-- the answer is the one that was asked for
pub returns-clause-yes : goal.returns-clause-yes
returns-clause-yes c = search rules
