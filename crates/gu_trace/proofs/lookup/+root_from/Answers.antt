use Rattle.std.proofs.Common.{◌≤◌, sym, ◌∙◌, ap, arith}
use Rattle.gu_base.specs.History.{records}
use Rattle.gu_base.specs.Places.{line_within, root_along}
use Rattle.gu_trace.proofs.Lookups.{root_last}
use Rattle.gu_trace.proofs.lookup.+root_from.Goals as goal

pub returns-in-None-root_from : goal.returns-in-None-root_from
returns-in-None-root_from t c =
    let low : 1 ≤ c.args.steps = omega arith in
    root_last (records c.args.entries.now) c.args.steps c.in-Some.x c.in-Some-parent.parent low c.in-Some-parent.ensures
    (rw c.node_at.ensures at c.in-None-root_from.ensures)
    ∙ ap (λ o. root_along (line_within c.args.steps (records c.args.entries.now) o)) (sym c.in-Some.is)
