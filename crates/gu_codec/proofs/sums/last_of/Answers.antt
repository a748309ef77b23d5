use Rattle.std.proofs.Common.{◌-◌, ◌∙◌, ap, arith, length, drop, sum, bit_and}
use Rattle.std.proofs.lemmas.List.{take-take}
use Rattle.std.proofs.lemmas.Simd.{length-zip2, length-chunk}
use lib.Lanes.{chunk, zip2}
use Rattle.gu_codec.proofs.Summing.{kept, kept_sum}
use Rattle.gu_codec.proofs.sums.last_of.Goals as goal

pub returns-clause-len : goal.returns-clause-len
returns-clause-len c =
    let last = length-chunk (length c.args.bytes.now - 16) 16 c.args.bytes.now (omega arith) in
    let few = length-chunk c.args.left 16 kept (omega arith) in
    length-zip2 bit_and (chunk (length c.args.bytes.now - 16) 16 c.args.bytes.now) _
    (last ∙ omega (arith, few, ap length (take-take 16 (32 - c.args.left) (drop c.args.left kept) (omega arith))))
    ∙ last

pub returns-clause-sum : goal.returns-clause-sum
returns-clause-sum c =
    ap (λ ms. sum (zip2 bit_and (chunk (length c.args.bytes.now - 16) 16 c.args.bytes.now) ms))
    (take-take 16 (32 - c.args.left) (drop c.args.left kept) (omega arith))
    ∙ kept_sum c.args.bytes.now c.args.left c.requires.len c.requires.few c.type_inv.bytes
