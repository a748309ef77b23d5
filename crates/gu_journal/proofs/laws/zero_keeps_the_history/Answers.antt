use Rattle.gu_journal.proofs.laws.zero_keeps_the_history.Goals as goal
use Rattle.gu_journal.proofs.Kept.{zero_says}

pub returns : goal.returns
returns c = λ t pin bytes more file h. zero_says t pin bytes more file h
