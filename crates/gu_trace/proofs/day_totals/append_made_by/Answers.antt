use Rattle.std.proofs.Common.{rules}
use Rattle.gu_trace.proofs.day_totals.append_made_by.Goals as goal

pub returns-in-Agree : goal.returns-in-Agree
returns-in-Agree c = search rules
