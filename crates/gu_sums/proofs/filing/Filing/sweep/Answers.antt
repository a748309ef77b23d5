use Rattle.gu_sums.proofs.filing.Filing.sweep.Goals as goal
use Rattle.{gu_sums.proofs.Filings.swept, std.proofs.Common.arith}

pub invariant_of-self : goal.invariant_of-self
invariant_of-self g c = let s = swept 0 _ c.self.invariant.rising in
    rw c.sweep.ensures (record { rising = s.rises; marked = omega (arith, s.full) })

pub returns-then-sparse-clause-kept : goal.returns-then-sparse-clause-kept
returns-then-sparse-clause-kept g c = rw (← c.self.view_is, c.sweep.ensures) (swept 0 _ c.self.invariant.rising).kept

pub returns-then-sparse-clause-last : goal.returns-then-sparse-clause-last
returns-then-sparse-clause-last g c = rw (← c.self.view_is, c.sweep.ensures) (swept 0 _ c.self.invariant.rising).last

pub returns-then-sparse-clause-fewer : goal.returns-then-sparse-clause-fewer
returns-then-sparse-clause-fewer g c =
    rw (← c.self.view_is, c.sweep.ensures) (swept 0 _ c.self.invariant.rising).fewer
