use Rattle.gu_sums.proofs.filing.Filing.take.Goals as goal
use Rattle.gu_sums.proofs.Filings.{at_found, at_nowhere, marked_before, marked_there, none_leaves, take_leaves}
use Rattle.std.proofs.Common.{sym, ◌∙◌}

pub returns-in_default-clause-value : goal.returns-in_default-clause-value
returns-in_default-clause-value g c =
    rw (← c.self.view_is) (sym (at_nowhere _ _ (rw c.as_slice-2.ensures.value at c.in_default.ensures.absent)))

pub returns-in_default-clause-taken : goal.returns-in_default-clause-taken
returns-in_default-clause-taken g c = none_leaves _ _ (sym (returns-in_default-clause-value g c))

pub returns-in_default-kept-clause-value : goal.returns-in_default-kept-clause-value
returns-in_default-kept-clause-value g c =
    rw (← c.self.view_is)
    (sym c.in_default-kept.is
    ∙ at_found 0 _ _ _ _ c.self.invariant.rising
    (rw c.as_slice-2.ensures.value at c.in-Some.ensures.found) c.index.ensures)

pub returns-in_default-kept-clause-taken : goal.returns-in_default-kept-clause-taken
returns-in_default-kept-clause-taken g c = none_leaves _ _ (sym (returns-in_default-kept-clause-value g c))

pub invariant_of-self : goal.invariant_of-self
invariant_of-self g c =
    (take_leaves _ _ _ _ _ _ c.self.invariant
    (rw c.as_slice-2.ensures.value at c.in-Some.ensures.found) c.index.ensures c.in-Some-kept.is).0

pub returns-clause-value : goal.returns-clause-value
returns-clause-value g c =
    rw (← c.self.view_is)
    (sym c.in-Some-kept.is
    ∙ at_found 0 _ _ _ _ c.self.invariant.rising
    (rw c.as_slice-2.ensures.value at c.in-Some.ensures.found) c.index.ensures)

pub returns-clause-taken : goal.returns-clause-taken
returns-clause-taken g c =
    rw (← c.self.view_is)
    (take_leaves _ _ _ _ _ _ c.self.invariant
    (rw c.as_slice-2.ensures.value at c.in-Some.ensures.found) c.index.ensures c.in-Some-kept.is).1

pub returns-in_default-kept-clause-marked : goal.returns-in_default-kept-clause-marked
returns-in_default-kept-clause-marked g c =
    rw (← c.self.view_is)
    (marked_before _ _ _ _ c.self.invariant.rising
    (rw c.as_slice-2.ensures.value at c.in-Some.ensures.found) c.index.ensures c.in_default-kept.is)

pub returns-clause-marked : goal.returns-clause-marked
returns-clause-marked g c =
    rw (← c.self.view_is)
    (marked_there _ _ _ c.self.invariant.rising (rw c.as_slice-2.ensures.value at c.in-Some.ensures.found))
