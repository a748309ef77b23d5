use Rattle.std.proofs.Common.{rules}
use Rattle.gu_positions.proofs.Sides.{same_at, ready_still}
use Rattle.gu_positions.proofs.positions.Positions.ready.Goals as goal

pub returns-in_ok-insert-clause-same : goal.returns-in_ok-insert-clause-same
returns-in_ok-insert-clause-same c =
    rw (← c.self.view_is)
    (same_at c.self.inside.rows.entries c.insert.new.self.entries c.args.key.now (search rules)
    (c.in_ok-insert.ensures.updates).0)

pub returns-in_ok-insert-clause-stays_ready : goal.returns-in_ok-insert-clause-stays_ready
returns-in_ok-insert-clause-stays_ready c =
    rw (← c.self.view_is)
    (ready_still c.self.inside.rows.entries c.insert.new.self.entries c.args.key.now (record { long = 0; short = 0 })
    (c.in_ok-insert.ensures.updates).0)
