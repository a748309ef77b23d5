use Rattle.std.proofs.Common.{length, ◌-◌}
use Rattle.gu_roll.proofs.sharing.add_told.Given as goal

abbrev pub decreases-loop-at : goal.decreases-loop-at
decreases-loop-at l = length l.news - l.at
