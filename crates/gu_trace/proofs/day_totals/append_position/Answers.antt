use Rattle.std.proofs.Common.{rules}
use Rattle.gu_trace.proofs.day_totals.append_position.Goals as goal

pub returns : goal.returns
returns c = search rules
