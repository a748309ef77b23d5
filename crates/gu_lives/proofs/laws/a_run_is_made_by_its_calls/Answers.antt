use Rattle.gu_lives.proofs.Replayed.{run_replayed}
use Rattle.gu_lives.proofs.laws.a_run_is_made_by_its_calls.Goals as goal

pub returns : goal.returns
returns c = λ t o h rest run. run_replayed run rest
