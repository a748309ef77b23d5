use Rattle.gu_batch.proofs.Outputs as lemmas
use Rattle.gu_batch.proofs.laws.broken_stays.Goals as goal

pub returns : goal.returns
returns c = lemmas.broken_output
