use Rattle.std.proofs.Common.{◌-◌, length}
use Rattle.gu_server.proofs.stating.entries_said.Given as goal

abbrev pub decreases-frames : goal.decreases-frames
decreases-frames l = length l.bytes - l.at
