use Rattle.std.proofs.Common.{length, take, ap, arith, append_assoc, length-append}
use Rattle.gu_base.specs.Texts.{words_of, tail_of}
use Rattle.gu_message.proofs.bodies.put_refusal.Goals as goal

pub put-at-requires : goal.put-at-requires
put-at-requires c =
    omega (
      arith,
      c.requires,
      length-append (words_of c.args.refusal.now) (tail_of c.args.refusal.now),
      ap length c.words.ensures.value,
    )

pub put_named-requires : goal.put_named-requires
put_named-requires c =
    omega (
      arith,
      c.requires,
      length-append (words_of c.args.refusal.now) (tail_of c.args.refusal.now),
      ap length c.words.ensures.value,
      c.put-at.ensures.end,
      c.put-at.ensures.len,
    )

pub returns-clause-text : goal.returns-clause-text
returns-clause-text c =
    rw (c.put_named.ensures.text, c.put-at.ensures.text, c.as_bytes.ensures.value, c.words.ensures.value)
    (append_assoc (take c.args.at c.args.bytes.now) (words_of c.args.refusal.now) (tail_of c.args.refusal.now))

pub returns-clause-end : goal.returns-clause-end
returns-clause-end c =
    omega (
      arith,
      length-append (words_of c.args.refusal.now) (tail_of c.args.refusal.now),
      ap length c.words.ensures.value,
      c.put-at.ensures.end,
      c.put_named.ensures.end,
    )
