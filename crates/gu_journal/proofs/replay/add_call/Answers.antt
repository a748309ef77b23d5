use Rattle.gu_journal.proofs.replay.add_call.Goals as goal
use Rattle.gu_journal.proofs.Vocabulary.{rules}

-- what isn't accepted adds no entry
pub returns-in-Ok-clause-adds : goal.returns-in-Ok-clause-adds
returns-in-Ok-clause-adds c = search rules
