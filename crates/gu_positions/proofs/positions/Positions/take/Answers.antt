use Rattle.std.proofs.Common.{◌&&◌, ap, sym, subst, rules}
use Rattle.gu_base.specs.Positions.{same_side}
use Rattle.gu_sums.proofs.OneMore.{less_sum}
use Rattle.gu_positions.specs.Rows.{PositionRows, is_key, IsReady}
use Rattle.gu_positions.specs.Sums.{Stake}
use Rattle.gu_positions.proofs.Sides.{IsPut, lots_few, less_at, ready_still, none_taken}
use Rattle.gu_positions.proofs.positions.Positions.take.Goals as goal
use Rattle.gu_positions.proofs.positions.Positions.take.Goals.{in-Some, in_default}

pub without-requires : goal.without-requires
without-requires c =
    lots_few c.self.inside.rows.entries c.args.key.now c.in-Some.row.now c.args.side c.args.lots c.in-Some.ensures.value
    (rw (← c.self.view_is) at c.requires)

pub returns-clause-taken : goal.returns-clause-taken
returns-clause-taken c =
    elim c.match-get_mut.branch [
      | in-Some w ↦ (
          let put : IsPut c.self.inside.rows.entries (c.get_mut.follows.lender w.without.result).entries c.args.key.now
          w.without.result =
          ((c.get_mut.follows.holds w.without.result).3 (search rules)).0 in
          rw (w.self-inside-is, ← c.self.view_is)
          (less_at c.self.inside.rows.entries (c.get_mut.follows.lender w.without.result).entries c.args.key.now
          w.in-Some.row.now w.without.result c.args.side c.args.lots w.in-Some.ensures.value put w.without.ensures)
          )
      | in_default w ↦
          rw (w.self-inside-is, ← c.self.view_is)
          (none_taken c.self.inside.rows.entries c.get_mut.follows.lender-at-none.entries c.args.key.now c.args.side
          c.args.lots w.in_default.ensures.value (ap (λ m. m.entries) c.get_mut.follows.holds-at-none)
          (rw (← c.self.view_is) at c.requires))
    ]

pub returns-clause-stays_ready : goal.returns-clause-stays_ready
returns-clause-stays_ready c =
    elim c.match-get_mut.branch [
      | in-Some w ↦ (
          let put : IsPut c.self.inside.rows.entries (c.get_mut.follows.lender w.without.result).entries c.args.key.now
          w.without.result =
          ((c.get_mut.follows.holds w.without.result).3 (search rules)).0 in
          rw (w.self-inside-is, ← c.self.view_is)
          (ready_still c.self.inside.rows.entries (c.get_mut.follows.lender w.without.result).entries c.args.key.now
          w.without.result put)
          )
      | in_default w ↦
          rw (w.self-inside-is, ← c.self.view_is) (λ at is.
          subst (λ (r : PositionRows). IsReady r at) (sym (ap (λ m. m.entries) c.get_mut.follows.holds-at-none)) is)
    ]

pub returns-clause-sums : goal.returns-clause-sums
returns-clause-sums c = λ before after are.
    let x : Stake = record { key = c.args.key.now; side = c.args.side; lots = c.args.lots } in
    record {
      lots = λ at s.
          less_sum (λ y. y.lots) (λ y. is_key y.key at && same_side y.side s) before x after _ _
          (returns-clause-taken c at s) (are.lots at s);
    }
