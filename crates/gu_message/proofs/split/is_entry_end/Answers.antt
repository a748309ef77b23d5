use Rattle.std.proofs.Common.{◌+◌, ◌∙◌, ℕ, drop, ap}
use Rattle.gu_codec.specs.Fields.{fields_before, fields_of}
use Rattle.gu_message.proofs.PlainParts.{ends_at_79, ends_at_end}
use Rattle.gu_message.proofs.split.is_entry_end.Goals as goal

pub returns-then-at-bytes : goal.returns-then-at-bytes
returns-then-at-bytes c e =
    ap (λ (n : ℕ). fields_before 79 (fields_of (drop n c.args.bytes.now))) c.if-at-bytes.true
    ∙ ends_at_end c.args.bytes.now

pub returns-else-at-bytes : goal.returns-else-at-bytes
returns-else-at-bytes c has =
    ends_at_79 (drop c.args.at c.args.bytes.now) (drop (c.args.at + 3) c.args.bytes.now) (c.has_tag.ensures.text has)
