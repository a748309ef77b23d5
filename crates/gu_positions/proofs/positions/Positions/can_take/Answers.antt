use Rattle.std.proofs.Common.{◌∙◌, ap}
use Rattle.gu_positions.specs.Rows.{lots_on}
use Rattle.gu_positions.proofs.Sides.{at_most}
use Rattle.gu_positions.proofs.positions.Positions.can_take.Goals as goal

pub returns : goal.returns
returns c = at_most c.args.lots c.on.result _ (c.on.ensures ∙ ap (lots_on c.args.side) c.row.ensures)
