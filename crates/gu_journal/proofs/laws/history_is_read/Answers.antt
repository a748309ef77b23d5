use Rattle.gu_journal.proofs.laws.history_is_read.Goals as goal
use Rattle.gu_journal.proofs.Playing.{history_is}

pub returns : goal.returns
returns c = λ t pin bytes rest h end. history_is t pin bytes rest h end
