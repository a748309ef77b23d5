use Rattle.std.specs.Prelude.{decimal, take}
use Rattle.gu_life.specs.Status.{code_of}
use Rattle.gu_message.proofs.Joined.{instruction_text}
use Rattle.gu_message.proofs.allocation_ack.put_accepted.Goals as goal

pub returns-clause-text : goal.returns-clause-text
returns-clause-text c =
    rw (
      c.put.ensures.text,
      c.put_status-at.ensures.text,
      c.put-at-4.ensures.text,
      c.put_entry-at.ensures.text,
      c.put-at-3.ensures.text,
      c.put-at-2.ensures.text,
      c.put-at.ensures.text,
      c.as_bytes.ensures.value,
    ) (instruction_text (take c.args.at c.args.bytes.now) c.args.id.now (decimal c.args.number)
    (decimal (code_of c.args.status)))
