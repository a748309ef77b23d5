use Rattle.gu_fees.proofs.fees.Fees.ready.Goals as goal
use Rattle.gu_fees.proofs.Charges.{stay_ready}

pub returns-in_err-ready-clause-paid : goal.returns-in_err-ready-clause-paid
returns-in_err-ready-clause-paid c = λ firm. rw (← c.self.view_is) (c.ready.ensures.same firm)

pub returns-in_err-ready-clause-stays_ready : goal.returns-in_err-ready-clause-stays_ready
returns-in_err-ready-clause-stays_ready c =
    rw (← c.self.view_is) (stay_ready _ _ c.ready.ensures.stays_ready (λ q is. is) (λ q is. is))

pub returns-in_err-ready-2-clause-paid : goal.returns-in_err-ready-2-clause-paid
returns-in_err-ready-2-clause-paid c = λ firm. rw (← c.self.view_is) (c.ready.ensures.same firm)

pub returns-in_err-ready-2-clause-received : goal.returns-in_err-ready-2-clause-received
returns-in_err-ready-2-clause-received c = λ firm. rw (← c.self.view_is) (c.ready-2.ensures.same firm)

pub returns-in_err-ready-2-clause-stays_ready : goal.returns-in_err-ready-2-clause-stays_ready
returns-in_err-ready-2-clause-stays_ready c =
    rw (← c.self.view_is) (stay_ready _ _ c.ready.ensures.stays_ready c.ready-2.ensures.stays_ready (λ q is. is))

pub returns-clause-paid : goal.returns-clause-paid
returns-clause-paid c = λ firm. rw (← c.self.view_is) (c.ready.ensures.same firm)

pub returns-clause-received : goal.returns-clause-received
returns-clause-received c = λ firm. rw (← c.self.view_is) (c.ready-2.ensures.same firm)

pub returns-clause-used : goal.returns-clause-used
returns-clause-used c = λ g t. rw (← c.self.view_is) (c.ready-3.ensures.same _)

pub returns-clause-stays_ready : goal.returns-clause-stays_ready
returns-clause-stays_ready c = rw (← c.self.view_is) (stay_ready _ _ c.ready.ensures.stays_ready
    c.ready-2.ensures.stays_ready c.ready-3.ensures.stays_ready)
