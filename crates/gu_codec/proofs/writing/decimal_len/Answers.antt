use Rattle.std.proofs.Common.{arith}
use Rattle.std.proofs.lemmas.Fmt.{length-decimal-le}
use Rattle.itoa.proofs.Decimal.{length_four}
use Rattle.gu_codec.proofs.writing.decimal_len.Goals as goal

pub overflow_add-len : goal.overflow_add-len
overflow_add-len c =
    let all = length-decimal-le 20 c.args.number (omega arith) (omega arith) (omega arith) in
    omega (arith, all, c.fours.invariant, length_four c.fours.rest (omega arith) (omega arith))

pub fours-preserved : goal.fours-preserved
fours-preserved c = omega (arith, c.fours.invariant, length_four c.fours.rest (omega arith) (omega arith))

pub overflow_add-result : goal.overflow_add-result
overflow_add-result c =
    let all = length-decimal-le 20 c.args.number (omega arith) (omega arith) (omega arith) in
    omega (arith, all, c.fours.invariant, c.short_len.ensures.exact)

pub returns-clause-exact : goal.returns-clause-exact
returns-clause-exact c = omega (arith, c.fours.invariant, c.short_len.ensures.exact)

pub returns-clause-few : goal.returns-clause-few
returns-clause-few c =
    let all = length-decimal-le 20 c.args.number (omega arith) (omega arith) (omega arith) in
    omega (arith, all, c.fours.invariant, c.short_len.ensures.exact)
