use Rattle.std.specs.Prelude.{decimal, option_map, take}
use Rattle.gu_codec.specs.Writing.{fields_text, resend_pairs}
use Rattle.gu_codec.proofs.HeaderTexts.{header_text}
use Rattle.gu_codec.proofs.writing.put_header.Goals as goal

pub returns-clause-text : goal.returns-clause-text
returns-clause-text c =
    rw (
      c.put_sent.ensures.text,
      c.put_number-at.ensures.text,
      c.put-at-7.ensures.text,
      c.put-at-6.ensures.text,
      c.put-at-5.ensures.text,
      c.put-at-4.ensures.text,
      c.put-at-3.ensures.text,
      c.put-at-2.ensures.text,
      c.put-at.ensures.text,
      c.as_bytes.ensures.value,
      c.as_bytes-2.ensures.value,
    ) (header_text (take c.args.at c.args.bytes.now) c.args.header.now.kind.now c.args.header.now.sender
    c.args.header.now.target (decimal c.args.header.now.number)
    (fields_text (resend_pairs (option_map (λ t. t.now) c.args.header.now.resent) c.args.header.now.sent.now)))
