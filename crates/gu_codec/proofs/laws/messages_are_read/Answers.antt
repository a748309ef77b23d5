use Rattle.gu_codec.proofs.ReadBack.{messages_read, message_writable}
use Rattle.gu_codec.proofs.laws.messages_are_read.Goals as goal

pub returns : goal.returns
returns c = record { stream = messages_read; writable = message_writable }
