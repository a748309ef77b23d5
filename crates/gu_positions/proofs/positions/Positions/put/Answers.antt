use Rattle.std.proofs.Common.{◌&&◌, rules}
use Rattle.gu_base.specs.Positions.{same_side}
use Rattle.gu_sums.proofs.OneMore.{more_sum}
use Rattle.gu_positions.specs.Rows.{is_key}
use Rattle.gu_positions.specs.Sums.{Stake}
use Rattle.gu_positions.proofs.Sides.{IsPut, room_there, more_at, ready_still}
use Rattle.gu_positions.proofs.positions.Positions.put.Goals as goal

pub with-requires : goal.with-requires
with-requires c =
    room_there c.self.inside.rows.entries c.args.key.now c.in-Some.row.now c.args.side c.args.lots
    c.in-Some.ensures.value (rw (← c.self.view_is) at c.requires)

pub returns-in-Some-clause-added : goal.returns-in-Some-clause-added
returns-in-Some-clause-added c =
    let put : IsPut c.self.inside.rows.entries (c.get_mut.follows.lender c.with.result).entries c.args.key.now
    c.with.result =
    ((c.get_mut.follows.holds c.with.result).3 (search rules)).0 in
    rw (← c.self.view_is)
    (more_at c.self.inside.rows.entries (c.get_mut.follows.lender c.with.result).entries c.args.key.now
    c.in-Some.row.now c.with.result c.args.side c.args.lots c.in-Some.ensures.value put c.with.ensures)

pub returns-in-Some-clause-stays_ready : goal.returns-in-Some-clause-stays_ready
returns-in-Some-clause-stays_ready c =
    let put : IsPut c.self.inside.rows.entries (c.get_mut.follows.lender c.with.result).entries c.args.key.now
    c.with.result =
    ((c.get_mut.follows.holds c.with.result).3 (search rules)).0 in
    rw (← c.self.view_is)
    (ready_still c.self.inside.rows.entries (c.get_mut.follows.lender c.with.result).entries c.args.key.now
    c.with.result put)

pub returns-in-Some-clause-sums : goal.returns-in-Some-clause-sums
returns-in-Some-clause-sums c = λ before after are.
    let x : Stake = record { key = c.args.key.now; side = c.args.side; lots = c.args.lots } in
    record {
      lots = λ at s.
          more_sum (λ y. y.lots) (λ y. is_key y.key at && same_side y.side s) before x after _ _
          (returns-in-Some-clause-added c at s) (are.lots at s);
    }

pub add-requires : goal.add-requires
add-requires c = search rules

pub returns-clause-added : goal.returns-clause-added
returns-clause-added c = search rules

pub returns-clause-sums : goal.returns-clause-sums
returns-clause-sums c = search rules
