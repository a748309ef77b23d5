use Rattle.std.proofs.Common.{◌≡◌, ◌∙◌, length, refl}
use Rattle.gu_copies.proofs.Looking.{line_is}
use Rattle.gu_copies.proofs.verifying.line_of.Goals as goal

pub returns : goal.returns
returns g c t pin h k =
    let front : c.into_bytes-line.result.items ≡ c.in_ok-front.front.bytes.items =
    rw c.into_bytes-line.ensures.value refl in
    line_is (length h) c.entries.result c.len.result k.bytes _ _ _ _ (c.entries.ensures.kept t pin h k)
    (c.len.ensures ∙ k.file.end) (c.in_ok-digest.ensures.kept t pin h k) (front ∙ c.in_ok-front.ensures)
    c.in_ok-extend_from_slice.ensures.items c.in_ok-push.ensures.items
