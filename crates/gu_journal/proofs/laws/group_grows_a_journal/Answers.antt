use Rattle.gu_journal.proofs.laws.group_grows_a_journal.Goals as goal
use Rattle.gu_journal.proofs.Groups.{grows}

pub returns : goal.returns
returns c = λ t pin bytes moment h es n named is_moment. grows t named moment is_moment pin bytes h es n
