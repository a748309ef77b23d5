use Rattle.gu_journal.proofs.lawful.parts_are_lawful.Given as goal
use Rattle.gu_journal.proofs.Vocabulary.{AllByRecursion, IsNamedPart, take}

abbrev pub invariant-loop-part : goal.invariant-loop-part
invariant-loop-part l = AllByRecursion IsNamedPart (take l.part-index l.parts)
