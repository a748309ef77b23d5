use Rattle.std.proofs.Common.{drop, sym, refl, arith, length-drop}
use Rattle.gu_codec.proofs.FieldEnds.{begins, field_ends, field_empty, no_tag}
use Rattle.gu_codec.proofs.fields.field_to.Goals as goal

pub returns-in-Some : goal.returns-in-Some
returns-in-Some c =
    let bytes = c.args.bytes.now in
    let start = c.in-Some.start in
    sym (field_ends bytes c.in-Some.tag (drop start bytes) start c.args.end c.in-Some.ensures.0 c.requires.first
    c.requires.inside (omega (arith, length-drop start bytes, c.in-Some.ensures.1, c.requires.inside))
    c.in-Some.ensures.1)

pub returns-in_err-tag : goal.returns-in_err-tag
returns-in_err-tag c = rw c.from_residual.ensures (sym (no_tag c.args.bytes.now (sym c.in_err-tag.ensures)))

pub overflow_sub-start : goal.overflow_sub-start
overflow_sub-start c =
    let h = begins c.args.bytes.now c.in_ok-tag.tag c.in_ok-tag.rest.now (sym c.in_ok-tag.ensures) in
    omega (arith, h.shorter)

pub returns-then-end-start : goal.returns-then-end-start
returns-then-end-start c =
    sym (field_empty c.args.bytes.now c.in_ok-tag.tag c.in_ok-tag.rest.now _ c.args.end (sym c.in_ok-tag.ensures)
    c.requires.first refl (omega arith))

pub returns : goal.returns
returns c =
    sym (field_ends c.args.bytes.now c.in_ok-tag.tag c.in_ok-tag.rest.now _ c.args.end (sym c.in_ok-tag.ensures)
    c.requires.first c.requires.inside refl (omega arith))
