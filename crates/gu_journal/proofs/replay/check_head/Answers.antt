use Rattle.gu_journal.proofs.replay.check_head.Goals as goal
use Rattle.gu_journal.proofs.Vocabulary.{rules}

-- the message has the pin
pub returns-then-has_pin-clause-ok : goal.returns-then-has_pin-clause-ok
returns-then-has_pin-clause-ok c = search rules
