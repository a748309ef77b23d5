use Rattle.std.proofs.Common.{◌≡◌, ◌+◌, drop}
use Rattle.gu_roll.specs.Lack.{first_apart}
use Rattle.gu_roll.proofs.extending.first_other_opening.Given as goal

abbrev pub invariant-loop-place : goal.invariant-loop-place
invariant-loop-place l =
    first_apart (l.place + 1) (drop l.place l.new.opening) (drop l.place l.old.opening)
    ≡ first_apart 1 l.new.opening l.old.opening
