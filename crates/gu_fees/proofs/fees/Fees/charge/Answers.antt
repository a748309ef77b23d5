use Rattle.gu_fees.proofs.fees.Fees.charge.Goals as goal
use Rattle.{gu_base.proofs.Basics.still_true, gu_fees.proofs.Charges.{stay_ready, sums_more}}

pub returns-clause-paid : goal.returns-clause-paid
returns-clause-paid c = λ firm. rw (← c.self.view_is) (c.add.ensures.added firm)

pub returns-clause-received : goal.returns-clause-received
returns-clause-received c = λ firm. rw (← c.self.view_is) (c.add-2.ensures.added firm)

pub returns-clause-used : goal.returns-clause-used
returns-clause-used c = λ g t. rw (← c.self.view_is) (c.add-3.ensures.added _)

pub returns-clause-stays_ready : goal.returns-clause-stays_ready
returns-clause-stays_ready c = rw (← c.self.view_is) (stay_ready _ _
    (λ q. still_true _ _ (c.add.ensures.stays_ready q)) (λ q. still_true _ _ (c.add-2.ensures.stays_ready q))
    (λ q. still_true _ _ (c.add-3.ensures.stays_ready q)))

pub returns-clause-sums : goal.returns-clause-sums
returns-clause-sums c = λ before after.
    rw (← c.self.view_is) (sums_more _ _ _ _ after c.add.ensures.added c.add-2.ensures.added c.add-3.ensures.added)
