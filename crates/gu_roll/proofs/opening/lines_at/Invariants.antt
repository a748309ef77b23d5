use Rattle.std.proofs.Common.{◌≡◌, ◌-◌, ◌++◌, drop}
use Rattle.std.specs.Prelude.{slice_get}
use Rattle.std.specs.List.{filter_map}
use Rattle.gu_roll.proofs.opening.lines_at.Given as goal

abbrev pub invariant-loop-number : goal.invariant-loop-number
invariant-loop-number l =
    l.lines.items ++ filter_map (λ n. slice_get l.house.opening (n - 1)) (drop l.number-index l.numbers)
    ≡ filter_map (λ n. slice_get l.house.opening (n - 1)) l.numbers
