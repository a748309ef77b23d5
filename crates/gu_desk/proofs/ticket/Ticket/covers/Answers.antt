use Rattle.std.proofs.Common.{rules}
use Rattle.gu_desk.proofs.ticket.Ticket.covers.Goals as goal

-- the older one has seen no more
pub order-requires-clause-fewer : goal.order-requires-clause-fewer
order-requires-clause-fewer g c = search rules

-- one that has seen more isn't covered
pub returns-then-older-self-clause-found : goal.returns-then-older-self-clause-found
returns-then-older-self-clause-found g c = search rules

-- one that has seen no more is
pub returns-clause-found : goal.returns-clause-found
returns-clause-found g c = search rules
