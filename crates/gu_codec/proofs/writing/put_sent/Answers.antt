use Rattle.std.specs.Prelude.{take}
use Rattle.gu_codec.proofs.HeaderTexts.{sent_text, resent_text}
use Rattle.gu_codec.proofs.writing.put_sent.Goals as goal

pub returns-in-None-clause-text : goal.returns-in-None-clause-text
returns-in-None-clause-text c =
    rw (c.put.ensures.text, c.put-at-in-None.ensures.text, c.put-at.ensures.text, c.in-None.is)
    (sent_text (take c.args.at c.args.bytes.now) c.args.header.now.sent.now)

pub returns-in-Some-clause-text : goal.returns-in-Some-clause-text
returns-in-Some-clause-text c =
    rw (
      c.put-in-Some.ensures.text,
      c.put-at-in-Some-4.ensures.text,
      c.put-at-in-Some-3.ensures.text,
      c.put-at-in-Some-2.ensures.text,
      c.put-at-in-Some.ensures.text,
      c.in-Some.is,
    )
    (resent_text (take c.args.at c.args.bytes.now) c.args.header.now.sent.now c.in-Some.first.now)
