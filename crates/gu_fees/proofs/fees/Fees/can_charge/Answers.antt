use Rattle.gu_fees.proofs.fees.Fees.can_charge.Goals as goal
use Rattle.std.proofs.Common.{arith}

pub returns : goal.returns
returns c = rw (← c.self.view_is) (
  (λ yes.
      let each = c.all_three.ensures.0 yes in
      let pays = c.can_add-pays.ensures.0 each.0 in
      let receives = c.can_add-receives.ensures.0 each.1 in
      let uses = c.can_add-uses.ensures.0 each.2 in
      record {
        ready = record { pays = pays.ready; receives = receives.ready; uses = uses.ready };
        paid = omega arith;
        received = omega arith;
        used = uses.fits;
      }),
  (λ can. c.all_three.ensures.1 (
    c.can_add-pays.ensures.1 (record { ready = can.ready.pays; fits = omega arith }),
    c.can_add-receives.ensures.1 (record { ready = can.ready.receives; fits = omega arith }),
    c.can_add-uses.ensures.1 (record { ready = can.ready.uses; fits = can.used }),
  )),
)
