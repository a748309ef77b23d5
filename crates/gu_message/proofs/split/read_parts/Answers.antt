use Rattle.std.proofs.Common.{◌≡◌, ◌∙◌, ℕ, List, Ok, subst, arith}
use Rattle.std.proofs.lemmas.List.{take_all}
use Rattle.gu_codec.specs.Fields.{fields_of}
use Rattle.gu_message.specs.Finding.{entries}
use Rattle.gu_message.specs.SplitParts.{counted_of}
use Rattle.gu_message.proofs.PlainParts.{all_read}
use Rattle.gu_message.proofs.split.read_parts.Goals as goal

pub returns-then-front-bytes : goal.returns-then-front-bytes
returns-then-front-bytes c =
    let rest = c.args.group.rest.now in
    let after = c.read_plain-front.new.parts.items in
    let whole : c.value_at-bytes.result.now ≡ rest =
    c.value_at-bytes.ensures ∙ take_all c.left.result rest (omega (arith, c.left.ensures)) in
    subst (λ (bytes : List ℕ). counted_of c.args.by.now c.args.count (entries 79 (fields_of bytes)) ≡ Ok after) whole
    (all_read c.args.by.now c.value_at-bytes.result.now c.read_plain-front.result.at c.read_plain-front.result.left
    c.args.count c.clear.new.self.items after c.if-front-bytes.true c.if-front-eq0.true c.clear.ensures.items
    c.read_plain-front.ensures.rest)
