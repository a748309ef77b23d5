use Rattle.gu_journal.proofs.damage.HouseDigest.of.Goals as goal
use Rattle.gu_journal.proofs.Vocabulary.{rules}

-- it is the digest of all of the file
pub returns : goal.returns
returns c = search rules
