use Rattle.std.specs.List.{All}
use Rattle.gu_message.specs.AllocationReport.{ShowsFewParts}
use Rattle.test_messages.proofs.sessions.reports.Given as goal

-- so far each shows few parts
abbrev pub invariant-reports : goal.invariant-reports
invariant-reports l = All ShowsFewParts l.all.items
