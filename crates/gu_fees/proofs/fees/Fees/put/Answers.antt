use Rattle.gu_fees.proofs.fees.Fees.put.Goals as goal
use Rattle.{gu_base.proofs.Basics.still_true, gu_fees.proofs.{Charges.{stay_ready, sums_more}, Places.on_err}}
use Rattle.std.proofs.Common.{arith, ℕ, ◌+◌, ◌≡◌}

-- what was added and taken out again changes nothing
back : (old mid new by : ℕ) → mid ≡ old + by → new + by ≡ mid → new ≡ old
back old mid new by put taken = omega arith

pub returns-in_err-put-clause-same_paid : goal.returns-in_err-put-clause-same_paid
returns-in_err-put-clause-same_paid c = on_err c.from_residual.result (rw (← c.self.view_is) c.in_err-put.ensures.same)

pub returns-in-Err-clause-same_paid : goal.returns-in-Err-clause-same_paid
returns-in-Err-clause-same_paid c =
    rw (← c.self.view_is) (λ firm. back _ _ _ _ (c.in_ok-put.ensures.added firm) (c.take.ensures.taken firm))

pub returns-in-Err-clause-same_received : goal.returns-in-Err-clause-same_received
returns-in-Err-clause-same_received c = rw (← c.self.view_is) c.in-Err.ensures.same

pub returns-in-Err-put-clause-same_paid : goal.returns-in-Err-put-clause-same_paid
returns-in-Err-put-clause-same_paid c = rw (← c.self.view_is)
    (λ firm. back _ _ _ _ (c.in_ok-put.ensures.added firm) (c.take-in-Err-put-2.ensures.taken firm))

pub returns-in-Err-put-clause-same_received : goal.returns-in-Err-put-clause-same_received
returns-in-Err-put-clause-same_received c = rw (← c.self.view_is)
    (λ firm. back _ _ _ _ (c.in_default.ensures.added firm) (c.take-in-Err-put.ensures.taken firm))

pub returns-in-Err-put-clause-same_used : goal.returns-in-Err-put-clause-same_used
returns-in-Err-put-clause-same_used c = rw (← c.self.view_is) (λ g t. c.in-Err-put.ensures.same _)

pub returns-clause-sums : goal.returns-clause-sums
returns-clause-sums c = λ before after.
    rw (← c.self.view_is) (sums_more _ _ _ _ after c.in_ok-put.ensures.added c.in_default.ensures.added
    c.in_default-put.ensures.added)

pub returns-in_err-put-clause-stays_ready : goal.returns-in_err-put-clause-stays_ready
returns-in_err-put-clause-stays_ready c =
    rw (← c.self.view_is) (stay_ready _ _ c.put.ensures.stays_ready (λ q is. is) (λ q is. is))

pub returns-in-Err-clause-stays_ready : goal.returns-in-Err-clause-stays_ready
returns-in-Err-clause-stays_ready c = rw (← c.self.view_is) (stay_ready _ _
    (λ q is. still_true _ _ (c.take.ensures.stays_ready q) (c.put.ensures.stays_ready q is)) c.put-2.ensures.stays_ready
    (λ q is. is))

pub returns-in-Err-put-clause-stays_ready : goal.returns-in-Err-put-clause-stays_ready
returns-in-Err-put-clause-stays_ready c = rw (← c.self.view_is) (stay_ready _ _
    (λ q is. still_true _ _ (c.take-in-Err-put-2.ensures.stays_ready q) (c.put.ensures.stays_ready q is))
    (λ q is. still_true _ _ (c.take-in-Err-put.ensures.stays_ready q) (c.put-2.ensures.stays_ready q is))
    c.put-3.ensures.stays_ready)

pub returns-clause-stays_ready : goal.returns-clause-stays_ready
returns-clause-stays_ready c = rw (← c.self.view_is) (stay_ready _ _ c.put.ensures.stays_ready
    c.put-2.ensures.stays_ready c.put-3.ensures.stays_ready)
