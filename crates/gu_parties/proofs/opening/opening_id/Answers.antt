use Rattle.std.proofs.Common.{◌≡◌, ◌∙◌, ◌++◌, true, ap, refl}
use Rattle.std.specs.Prelude.{codes, decimal}
use Rattle.gu_base.specs.Names.{is_id_text}
use Rattle.gu_parties.proofs.OpeningCalls.{opening_id_text}
use Rattle.gu_parties.proofs.opening.opening_id.Goals as goal

pub unreachable-requires : goal.unreachable-requires
unreachable-requires c =
    let text : c.as_bytes.result.now ≡ codes "OPEN-" ++ decimal c.args.number = c.as_bytes.ensures.value
    ∙ c.deref.ensures.0 ∙ c.push_str-2.ensures.bytes
    ∙ rw (c.push_str.ensures.bytes, c.format.ensures.text, c.new-text.ensures) refl in
    let lawful : is_id_text c.as_bytes.result.now ≡ true =
    ap is_id_text text ∙ opening_id_text c.args.number c.ranges.number.fits in
    let some = rw lawful at c.new.ensures in
    absurd cc
