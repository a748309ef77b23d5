use Rattle.gu_journal.proofs.laws.one_start.Goals as goal
use Rattle.gu_journal.proofs.Standing.{one_start}

pub returns-clause-one : goal.returns-clause-one
returns-clause-one c = λ t pin file h k. one_start t pin file h k

pub returns-clause-told : goal.returns-clause-told
returns-clause-told c = λ t pin file h k is stands. is.longest k stands
