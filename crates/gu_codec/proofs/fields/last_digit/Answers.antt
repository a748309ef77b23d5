use Rattle.std.proofs.Common.{◌≡◌, ◌∙◌, ap, arith, get_or}
use Rattle.std.proofs.lemmas.List.{get_or-take}
use Rattle.gu_codec.proofs.fields.last_digit.Goals as goal

pub returns-then-over-lt10 : goal.returns-then-over-lt10
returns-then-over-lt10 c =
    let bytes = c.args.bytes.now in
    let pair = c.in_ok-pair.ensures.cases.0 in
    let first : get_or c.in_ok-pair.pair.now 0 0 ≡ get_or bytes 0 0 =
    ap (λ xs. get_or xs 0 0) pair ∙ get_or-take 2 bytes 0 0 (omega arith) in
    let second : get_or c.in_ok-pair.pair.now 1 0 ≡ get_or bytes 1 0 =
    ap (λ xs. get_or xs 1 0) pair ∙ get_or-take 2 bytes 1 0 (omega arith) in
    let low = (c.type_inv.bytes 0).fits in
    let high = (c.type_inv.bytes 1).fits in (
      omega (arith, c.from_le_bytes-over.ensures, first, second, low, high),
      omega (arith, c.if-over-lt10.true),
      omega (arith, c.from_le_bytes-over.ensures, first, second, low, high),
    )
