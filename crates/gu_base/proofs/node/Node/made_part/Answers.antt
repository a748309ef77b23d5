use Rattle.std.proofs.Common.{◌≡◌, ◌≤◌, ◌<◌, ◌-◌, sym, ◌∙◌, ap, arith, length}
use Rattle.std.specs.Prelude.{Some}
use Rattle.gu_base.proofs.PartPlaces.{part_read, part_past, no_part_0}
use Rattle.gu_base.proofs.node.Node.made_part.Goals as goal

pub returns-then-part-eq0 : goal.returns-then-part-eq0
returns-then-part-eq0 c =
    let zeroth : c.args.name.now.part ≡ 0 = omega arith in
    sym (no_part_0 c.args.name.now c.args.parent.now c.args.by.now c.args.parts.now zeroth)

pub returns-then-place-parts : goal.returns-then-place-parts
returns-then-place-parts c =
    let low : 1 ≤ c.args.name.now.part = omega arith in
    let past : length c.args.parts.now ≤ c.args.name.now.part - 1 = omega arith in
    part_past c.args.name.now c.args.parent.now c.args.by.now c.args.parts.now low past

pub returns : goal.returns
returns c =
    let n = c.args.name.now in
    let low : 1 ≤ n.part = omega arith in
    let within : n.part - 1 < length c.args.parts.now = omega arith in
    ap (λ k. Some (record { name = n; lots = c.index-parts-place.result.lots; kind = k })) c.of_part.ensures
    ∙ part_read n c.args.parent.now c.args.by.now c.args.parts.now c.index-parts-place.result low within
    (rw c.part-2.ensures.value at c.index-parts-place.is)
