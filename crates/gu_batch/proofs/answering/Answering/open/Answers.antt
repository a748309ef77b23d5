use Rattle.std.proofs.Common.{rules}
use Rattle.gu_batch.proofs.answering.Answering.open.Goals as goal

pub returns-in-Ok : goal.returns-in-Ok
returns-in-Ok c = search rules
