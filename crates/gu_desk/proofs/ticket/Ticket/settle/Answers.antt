use Rattle.std.proofs.Common.{rules}
use Rattle.gu_desk.proofs.ticket.Ticket.settle.Goals as goal

-- it is settled where as much is durable as it has seen
pub returns-clause-found : goal.returns-clause-found
returns-clause-found g c = search rules

-- and then what is durable begins with that
pub returns-clause-receipt : goal.returns-clause-receipt
returns-clause-receipt g c = search rules
