use Rattle.gu_message.proofs.SessionReplies.{all_lawful}
use Rattle.gu_message.proofs.laws.session_messages_are_lawful.Goals as goal

pub returns : goal.returns
returns c = all_lawful
