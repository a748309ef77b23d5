use Rattle.gu_batch.proofs.ReadBack as lemmas
use Rattle.gu_batch.proofs.laws.output_is_read_back.Goals as goal

pub returns : goal.returns
returns c = lemmas.output_read
