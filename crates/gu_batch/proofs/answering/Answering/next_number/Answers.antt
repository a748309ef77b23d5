use Rattle.std.proofs.Common.{rules}
use Rattle.gu_batch.proofs.answering.Answering.next_number.Goals as goal

pub returns : goal.returns
returns c = search rules
