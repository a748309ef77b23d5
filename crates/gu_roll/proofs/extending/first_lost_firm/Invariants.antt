use Rattle.std.proofs.Common.{◌≡◌, drop}
use Rattle.gu_base.specs.House.{knows_firm}
use Rattle.gu_roll.specs.Lack.{first_without}
use Rattle.gu_roll.proofs.extending.first_lost_firm.Given as goal

abbrev pub invariant-loop-place : goal.invariant-loop-place
invariant-loop-place l =
    first_without (knows_firm l.new) (drop l.place l.old.firms) ≡ first_without (knows_firm l.new) l.old.firms
