use Rattle.std.proofs.Common.{◌-◌, length}
use Rattle.gu_codec.specs.MarkBits.{IsMarked}
use Rattle.gu_codec.proofs.marks.advance.Given as goal

abbrev pub invariant-loop-marks : goal.invariant-loop-marks
invariant-loop-marks l = IsMarked l.bytes l.at l.base l.marks

abbrev pub decreases-loop-marks : goal.decreases-loop-marks
decreases-loop-marks l = length l.bytes - l.base
