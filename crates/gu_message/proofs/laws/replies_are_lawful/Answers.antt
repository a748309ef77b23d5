use Rattle.gu_message.proofs.Replies.{answer_lawful, reject_lawful, sent_writable}
use Rattle.gu_message.proofs.laws.replies_are_lawful.Goals as goal

pub returns : goal.returns
returns c = record { answer = answer_lawful; reject = reject_lawful; sent = sent_writable }
