use Rattle.gu_batch.proofs.ReadSoFar.{memory_first}
use Rattle.gu_batch.proofs.batch.answer_stream.Goals as goal

-- the opening calls found no memory, and nothing was read
pub returns-in-Err : goal.returns-in-Err
returns-in-Err g c = memory_first c.args.house _
