use Rattle.std.proofs.Common.{sym, ◌∙◌, ap}
use Rattle.gu_base.specs.History.{records}
use Rattle.gu_base.specs.Nodes.{node_of}
use Rattle.gu_base.specs.Places.{line_within, root_along}
use Rattle.gu_trace.proofs.Lookups.{as_long}
use Rattle.gu_trace.proofs.lookup.root_of.Goals as goal

pub returns : goal.returns
returns c =
    rw c.node_at.ensures at c.root_from.ensures
    ∙ ap (λ m.
    root_along (line_within m (records c.args.entries.now) (node_of (records c.args.entries.now) c.args.name.now)))
    (sym (as_long c.args.entries.now))
