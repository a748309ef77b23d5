use Rattle.std.specs.Prelude.{take}
use Rattle.gu_base.specs.Texts.{refusal_text}
use Rattle.gu_message.proofs.Joined.{refused_instruction_text}
use Rattle.gu_message.proofs.allocation_ack.put_refused.Goals as goal

pub returns-clause-text : goal.returns-clause-text
returns-clause-text c =
    rw c.put_refused_call.ensures.text
    (refused_instruction_text (take c.args.at c.args.bytes.now) c.args.id.now (refusal_text c.args.refusal.now))
