use Rattle.gu_journal.proofs.laws.kept_is_read.Goals as goal
use Rattle.gu_journal.proofs.Kept.{kept_part, kept_says, kept_starts}

pub returns-clause-read : goal.returns-clause-read
returns-clause-read g c = λ t pin h j c' k left. kept_says g.D.Disk.seen g.D.Disk.may_leave t pin h j k c' left

pub returns-clause-starts : goal.returns-clause-starts
returns-clause-starts g c = λ t pin h j c' k left. (
  kept_starts g.D.Disk.seen g.D.Disk.may_leave t pin h j k c' left,
  kept_part g.D.Disk.seen g.D.Disk.may_leave t pin h j k c' left,
)
