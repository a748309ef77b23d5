use Rattle.gu_sums.proofs.filing.Filing.place.Goals as goal
use Rattle.gu_sums.proofs.Filings.{at_nowhere, place_of}

pub returns-in-Some-clause-found : goal.returns-in-Some-clause-found
returns-in-Some-clause-found g c =
    rw (← c.self.view_is)
    (place_of _ _ _ c.self.invariant.rising (rw c.as_slice.ensures.value at c.in-Some.ensures.found))

pub returns-in-None-clause-absent : goal.returns-in-None-clause-absent
returns-in-None-clause-absent g c =
    rw (← c.self.view_is) (at_nowhere _ _ (rw c.as_slice.ensures.value at c.in-None.ensures.absent))
