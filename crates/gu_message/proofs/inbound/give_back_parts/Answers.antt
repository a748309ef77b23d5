use Rattle.std.proofs.Common.{rules}
use Rattle.gu_message.proofs.inbound.give_back_parts.Goals as goal

pub returns-in-Call-default-default-default-Split-clause-room :
    goal.returns-in-Call-default-default-default-Split-clause-room
returns-in-Call-default-default-default-Split-clause-room c = search rules

pub returns-in-Call-default-default-default-Split-clause-left :
    goal.returns-in-Call-default-default-default-Split-clause-left
returns-in-Call-default-default-default-Split-clause-left c = search rules
