use Rattle.gu_journal.proofs.laws.one_history.Goals as goal
use Rattle.gu_journal.proofs.Playing.{one_history}

pub returns : goal.returns
returns c = λ t pin other bytes h k. one_history t pin other bytes h k
