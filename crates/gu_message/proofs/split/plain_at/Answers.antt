use Rattle.std.proofs.Common.{◌≡◌, ◌+◌, ◌∙◌, ◌∷◌, ℕ, drop, sym, ap, arith}
use Rattle.gu_message.proofs.PlainParts.{plain}
use Rattle.gu_message.proofs.split.plain_at.Goals as goal

pub soh_from-name-requires : goal.soh_from-name-requires
soh_from-name-requires c = c.has_tag.ensures.inside c.if-not-has_tag.false

pub soh_from-end-requires : goal.soh_from-end-requires
soh_from-end-requires c = omega (arith, c.has_tag-else-name-bytes.ensures.inside c.if-not-has_tag-2.false)

pub returns : goal.returns
returns c =
    let bytes = c.args.bytes.now in
    let name = c.soh_from-name.result in
    let next : name + 1 + 3 ≡ name + 4 = omega arith in
    plain bytes c.args.at name c.soh_from-end.result c.in_ok-lots.lots (c.has_tag.ensures.text c.if-not-has_tag.false)
    c.soh_from-name.ensures.end c.if-name-at.false (omega (arith, c.soh_from-name.ensures.inside))
    (c.has_tag-else-name-bytes.ensures.text c.if-not-has_tag-2.false ∙ ap (λ (k : ℕ). 56 ∷ 48 ∷ 61 ∷ drop k bytes) next)
    c.soh_from-end.ensures.end (omega (arith, c.soh_from-end.ensures.inside)) (sym c.in_ok-lots.ensures.value)
