use Rattle.std.proofs.Common.{◌≡◌, ◌+◌, drop}
use Rattle.gu_roll.specs.Lack.{first_apart}
use Rattle.gu_roll.proofs.opening.first_other_line.Given as goal

abbrev pub invariant-loop-place : goal.invariant-loop-place
invariant-loop-place l =
    first_apart (l.place + 1) (drop l.place l.house.opening) (drop l.place l.lines)
    ≡ first_apart 1 l.house.opening l.lines
