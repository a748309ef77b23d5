use Rattle.std.proofs.Common.{◌∙◌}
use Rattle.gu_base.specs.History.{numbered_as}
use Rattle.gu_trace.proofs.Lookups.{node_some, node_none}
use Rattle.gu_statement.proofs.sight.node_at.Goals as goal

pub returns-in-Some : goal.returns-in-Some
returns-in-Some c =
    c.made_by.ensures
    ∙ node_some c.args.entries.now c.args.name.now (numbered_as c.args.name.now.entry c.in-Some.entry.now)
    (rw c.entry.ensures at c.in-Some.ensures)

pub returns-in-None : goal.returns-in-None
returns-in-None c = node_none c.args.entries.now c.args.name.now (rw c.entry.ensures at c.in-None.ensures)
