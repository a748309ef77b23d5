use Rattle.std.proofs.Common.{rules}
use Rattle.gu_message.proofs.allocation_ack.put_status.Goals as goal

pub put_number-requires-clause-fits : goal.put_number-requires-clause-fits
put_number-requires-clause-fits c = search rules

pub returns-clause-text : goal.returns-clause-text
returns-clause-text c = search rules

pub returns-clause-end : goal.returns-clause-end
returns-clause-end c = search rules
