use Rattle.std.proofs.Common.{◌&&◌, rules}
use Rattle.gu_base.specs.Positions.{same_side}
use Rattle.gu_sums.proofs.OneMore.{more_sum}
use Rattle.gu_positions.specs.Rows.{is_key}
use Rattle.gu_positions.specs.Sums.{Stake}
use Rattle.gu_positions.proofs.Sides.{IsPut, room_there, more_at, ready_still, not_ready}
use Rattle.gu_positions.proofs.positions.Positions.add.Goals as goal
use Rattle.gu_positions.proofs.positions.Positions.add.Goals.{in-Some, in_default}

pub with-requires : goal.with-requires
with-requires c =
    room_there c.self.inside.rows.entries c.args.key.now c.in-Some.row.now c.args.side c.args.lots
    c.in-Some.ensures.value (rw (← c.self.view_is) at c.requires).fits

pub returns-clause-added : goal.returns-clause-added
returns-clause-added c =
    elim c.match-get_mut.branch [
      | in-Some w ↦ (
          let put : IsPut c.self.inside.rows.entries (c.get_mut.follows.lender w.with.result).entries c.args.key.now
          w.with.result =
          ((c.get_mut.follows.holds w.with.result).3 (search rules)).0 in
          rw (w.self-inside-is, ← c.self.view_is)
          (more_at c.self.inside.rows.entries (c.get_mut.follows.lender w.with.result).entries c.args.key.now
          w.in-Some.row.now w.with.result c.args.side c.args.lots w.in-Some.ensures.value put w.with.ensures)
          )
      | in_default w ↦
          absurd (not_ready c.self.inside.rows.entries c.args.key.now w.in_default.ensures.value
          (rw (← c.self.view_is) at c.requires).ready)
    ]

pub returns-clause-stays_ready : goal.returns-clause-stays_ready
returns-clause-stays_ready c =
    elim c.match-get_mut.branch [
      | in-Some w ↦ (
          let put : IsPut c.self.inside.rows.entries (c.get_mut.follows.lender w.with.result).entries c.args.key.now
          w.with.result =
          ((c.get_mut.follows.holds w.with.result).3 (search rules)).0 in
          rw (w.self-inside-is, ← c.self.view_is)
          (ready_still c.self.inside.rows.entries (c.get_mut.follows.lender w.with.result).entries c.args.key.now
          w.with.result put)
          )
      | in_default w ↦
          absurd (not_ready c.self.inside.rows.entries c.args.key.now w.in_default.ensures.value
          (rw (← c.self.view_is) at c.requires).ready)
    ]

pub returns-clause-sums : goal.returns-clause-sums
returns-clause-sums c = λ before after are.
    let x : Stake = record { key = c.args.key.now; side = c.args.side; lots = c.args.lots } in
    record {
      lots = λ at s.
          more_sum (λ y. y.lots) (λ y. is_key y.key at && same_side y.side s) before x after _ _
          (returns-clause-added c at s) (are.lots at s);
    }
