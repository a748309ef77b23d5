use Rattle.std.proofs.Common.{◌≡◌, drop}
use Rattle.gu_lives.specs.Extends.{keeps_terms}
use Rattle.gu_roll.specs.Lack.{first_without}
use Rattle.gu_roll.proofs.extending.first_other_terms.Given as goal

abbrev pub invariant-loop-place : goal.invariant-loop-place
invariant-loop-place l =
    first_without (keeps_terms l.old l.new) (drop l.place l.lines.agreements)
    ≡ first_without (keeps_terms l.old l.new) l.lines.agreements
