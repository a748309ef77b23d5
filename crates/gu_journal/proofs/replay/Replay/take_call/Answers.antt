use Rattle.gu_journal.proofs.replay.Replay.take_call.Goals as goal
use Rattle.gu_journal.proofs.Vocabulary.{IsTrue, refl, rules}

pub returns-then-not-is_added-clause-cause : goal.returns-then-not-is_added-clause-cause
returns-then-not-is_added-clause-cause c =
    rw c.damaged-then-not-is_added.ensures (
      refl,
      λ new adds.
          let is : IsTrue c.in_ok-is_added.is_added = c.in_ok-is_added.ensures.refused new (rw c.in-Call.is at adds) in
          absurd (search rules),
    )
