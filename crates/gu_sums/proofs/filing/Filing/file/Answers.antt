use Rattle.gu_sums.proofs.filing.Filing.file.Goals as goal
use Rattle.gu_sums.proofs.Filings.{file_leaves}

pub invariant_of-self : goal.invariant_of-self
invariant_of-self g c = rw c.push_reserved.ensures.items
    (file_leaves _ _ _ c.args.thing c.self.invariant (rw (← c.self.view_is) at c.requires.above)).0

pub returns-clause-filed : goal.returns-clause-filed
returns-clause-filed g c =
    rw (← c.self.view_is, c.push_reserved.ensures.items)
    (file_leaves _ _ _ c.args.thing c.self.invariant (rw (← c.self.view_is) at c.requires.above)).1
