use Rattle.std.proofs.Common.{rules}
use Rattle.std.proofs.Common.{arith}
use Rattle.gu_codec.proofs.Marking.{further}
use Rattle.gu_codec.proofs.marks.advance.Goals as goal

pub loop-marks-preserved : goal.loop-marks-preserved
loop-marks-preserved c =
    further c.args.bytes.now c.args.at c.loop-marks.base c.loop-marks.marks c.loop-marks.invariant
    c.more_marks-marks.result (omega arith) (omega arith) c.more_marks-marks.ensures

pub returns-else-base-bytes-clause-all : goal.returns-else-base-bytes-clause-all
returns-else-base-bytes-clause-all c = search rules
