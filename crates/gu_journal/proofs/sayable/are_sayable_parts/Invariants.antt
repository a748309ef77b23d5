use Rattle.gu_journal.proofs.sayable.are_sayable_parts.Given as goal
use Rattle.gu_journal.proofs.Vocabulary.{drop, is_sayable_part, list_all, ◌≡◌}

abbrev pub invariant-loop-part : goal.invariant-loop-part
invariant-loop-part l = list_all (is_sayable_part l.by) (drop l.part-index l.parts) ≡ list_all
    (is_sayable_part l.by) l.parts
