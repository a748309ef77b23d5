use Rattle.std.proofs.Common.{rules}
use Rattle.gu_desk.proofs.ticket.Ticket.is_confirmed.Goals as goal

-- what the journal's seat knows begins with what the ticket knows
pub returns-clause-begins : goal.returns-clause-begins
returns-clause-begins g c = search rules
