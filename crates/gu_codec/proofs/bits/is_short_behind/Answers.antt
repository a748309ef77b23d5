use Rattle.std.proofs.Common.{arith, length}
use Rattle.std.proofs.lemmas.Bool.{eqb-true}
use Rattle.gu_codec.proofs.Bitwise.{sizes, all_begin}
use Rattle.gu_codec.proofs.bits.is_short_behind.Goals as goal

pub returns : goal.returns
returns c = λ none.
    let size = sizes (length c.args.bytes.now) c.requires in
    all_begin c.args.bytes.now c.bits_of-soh.result c.bits_of_digits-digits.result c.bits_of-no_zeros.result
    c.bits_of.result (omega (arith, size.0)) size.1 (omega arith) (omega arith) (omega arith) c.bits_of-soh.ensures
    c.bits_of_digits-digits.ensures c.bits_of-no_zeros.ensures c.bits_of.ensures (eqb-true _ 0 none)
