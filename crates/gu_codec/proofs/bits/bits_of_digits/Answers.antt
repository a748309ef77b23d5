use Rattle.std.proofs.Common.{refl, arith, length}
use Rattle.gu_codec.proofs.Bitwise.{narrow, digits}
use Rattle.gu_codec.proofs.bits.bits_of_digits.Goals as goal

pub returns-then-bytes-eq64 : goal.returns-then-bytes-eq64
returns-then-bytes-eq64 c = digits c.args.bytes.now 64 (omega arith) c.if-bytes-eq64.true _ refl

pub returns : goal.returns
returns c =
    digits c.args.bytes.now 32 (omega arith) (narrow (length c.args.bytes.now) c.requires c.if-bytes-eq64.false) _ refl
