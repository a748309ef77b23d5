use Rattle.std.proofs.Common.{rules}
use Rattle.gu_desk.proofs.desk.Desk.ticket.Goals as goal

-- it waits for all that the seat has seen
pub new-requires-clause-records : goal.new-requires-clause-records
new-requires-clause-records g c = search rules
