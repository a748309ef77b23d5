use Rattle.std.proofs.Common.{arith}
use Rattle.gu_codec.proofs.Marking.{from_last}
use Rattle.gu_codec.proofs.marks.more_marks.Goals as goal

pub returns : goal.returns
returns c = from_last c.args.bytes.now c.args.at _ (omega arith) c.requires.inside (omega arith) c.marks_of_64-2.ensures
