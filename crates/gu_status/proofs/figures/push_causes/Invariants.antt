use Rattle.std.proofs.Common.{◌≡◌, ◌++◌, drop}
use Rattle.std.specs.List.{flat_map}
use Rattle.gu_status.specs.Metrics.{cause_text}
use Rattle.gu_status.proofs.figures.push_causes.Given as goal

abbrev pub invariant-loop-it : goal.invariant-loop-it
invariant-loop-it l =
    l.text.items ++ flat_map cause_text (drop l.it-index l.refused)
    ≡ l.initial.text.items ++ flat_map cause_text l.refused
