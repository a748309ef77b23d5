use Rattle.std.proofs.Common.{◌≡◌, ◌++◌, drop}
use Rattle.std.specs.List.{flat_map}
use Rattle.gu_status.specs.Metrics.{refused_firm_text}
use Rattle.gu_status.proofs.figures.push_refused_firms.Given as goal

abbrev pub invariant-loop-it : goal.invariant-loop-it
invariant-loop-it l =
    l.text.items ++ flat_map refused_firm_text (drop l.it-index l.firms)
    ≡ l.initial.text.items ++ flat_map refused_firm_text l.firms
