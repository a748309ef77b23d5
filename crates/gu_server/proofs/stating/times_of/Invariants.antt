use Rattle.std.proofs.Common.{◌-◌, length}
use Rattle.gu_server.proofs.stating.times_of.Given as goal

abbrev pub decreases-frames : goal.decreases-frames
decreases-frames l = length l.bytes - l.at
