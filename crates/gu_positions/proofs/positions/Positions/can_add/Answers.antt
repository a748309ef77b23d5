use Rattle.gu_positions.proofs.Sides.{can_add_there, not_ready}
use Rattle.gu_positions.proofs.positions.Positions.can_add.Goals as goal

pub returns-in-Some : goal.returns-in-Some
returns-in-Some c =
    rw (← c.self.view_is)
    (can_add_there c.self.inside.rows.entries c.args.key.now c.in-Some.row.now c.args.side c.args.lots c.has_room.result
    c.in-Some.ensures.value c.has_room.ensures)

pub returns-in-None : goal.returns-in-None
returns-in-None c =
    rw (← c.self.view_is) (
      λ h.
          absurd (cc),
      λ can. absurd (not_ready c.self.inside.rows.entries c.args.key.now c.in-None.ensures.value can.ready),
    )
