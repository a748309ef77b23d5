use Rattle.std.proofs.Common.{refl, arith}
use Rattle.gu_codec.proofs.Marking.{loaded}
use Rattle.gu_codec.proofs.marks.marks_of_16.Goals as goal

pub returns : goal.returns
returns c = loaded c.args.bytes.now c.args.at 16 _ c.requires (omega arith) refl
