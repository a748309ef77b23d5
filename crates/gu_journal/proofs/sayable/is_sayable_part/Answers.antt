use Rattle.gu_journal.proofs.sayable.is_sayable_part.Goals as goal
use Rattle.gu_journal.proofs.Vocabulary.{rules}

-- an own part without an account, or a given one with one
pub returns-else-is_own-is_named : goal.returns-else-is_own-is_named
returns-else-is_own-is_named c = search rules
