use Rattle.std.proofs.Common.{◌≡◌, drop}
use Rattle.gu_base.specs.House.{knows_instrument}
use Rattle.gu_roll.specs.Lack.{first_without}
use Rattle.gu_roll.proofs.extending.first_lost_instrument.Given as goal

abbrev pub invariant-loop-place : goal.invariant-loop-place
invariant-loop-place l =
    first_without (knows_instrument l.new) (drop l.place l.old.instruments)
    ≡ first_without (knows_instrument l.new) l.old.instruments
