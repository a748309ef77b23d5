use Rattle.std.proofs.Common.{rules}
use Rattle.gu_message.proofs.inbound.give_back.Goals as goal

pub returns-in-Ok-clause-ok : goal.returns-in-Ok-clause-ok
returns-in-Ok-clause-ok c = search rules
