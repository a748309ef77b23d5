use Rattle.gu_journal.proofs.laws.head_begins_a_journal.Goals as goal
use Rattle.gu_journal.proofs.Groups.{begins}

pub returns : goal.returns
returns c = λ t pin moment n named is_moment. begins t named moment is_moment pin n
