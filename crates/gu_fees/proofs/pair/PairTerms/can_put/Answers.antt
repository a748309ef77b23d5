use Rattle.gu_fees.proofs.pair.PairTerms.can_put.Goals as goal
use Rattle.{gu_fees.proofs.Dealings.can_by, gu_sums.specs.Filing.last_of}
use Rattle.std.proofs.{Common.{arith, rules, ◌<◌, ◌≤◌}, lemmas.Grind.common_steps}

pub returns-then-above : goal.returns-then-above
returns-then-above c =
    let room : 1 ≤ c.args.self.now.room = first_of (search rules, grind (arith, common_steps)) in
    let above : last_of c.self.inside.deeds.filed < c.args.entry =
    omega arith in
    rw (← c.self.view_is) (can_by _ _ _ _ _ _ _ _ c.self.invariant.kept.raised_is c.self.invariant.kept.used_is
    (rw (← c.self.view_is) at room) above c.has_room.ensures)
