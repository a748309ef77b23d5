use Rattle.std.proofs.Common.{◌-◌, length, arith}
use Rattle.gu_codec.proofs.Marking.{joined}
use Rattle.gu_codec.proofs.marks.first_marks.Goals as goal

pub returns-then-len-ge32 : goal.returns-then-len-ge32
returns-then-len-ge32 c =
    joined c.args.bytes.now 32 (length c.args.bytes.now - 32) _ _ (omega arith) (omega arith) (omega arith)
    c.marks_of_32.ensures c.marks_of_32-then-len-ge32.ensures

pub returns-then-len-ge16 : goal.returns-then-len-ge16
returns-then-len-ge16 c =
    joined c.args.bytes.now 16 (length c.args.bytes.now - 16) _ _ (omega arith) (omega arith) (omega arith)
    c.marks_of_16.ensures c.marks_of_16-then-len-ge16.ensures
