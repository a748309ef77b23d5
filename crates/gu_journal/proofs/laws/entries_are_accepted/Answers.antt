use Rattle.gu_journal.proofs.laws.entries_are_accepted.Goals as goal
use Rattle.gu_journal.proofs.Playing.{answers_are}

pub returns : goal.returns
returns c = λ t pin bytes rest h end journal ends. answers_are t pin bytes rest h end journal ends
