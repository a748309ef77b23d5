use Rattle.std.proofs.Common.{rules}
use Rattle.gu_message.proofs.inbound.header_and_meaning.Goals as goal

pub returns-clause-gives : goal.returns-clause-gives
returns-clause-gives c = search rules
