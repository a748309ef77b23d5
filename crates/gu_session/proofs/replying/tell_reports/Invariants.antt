use Rattle.std.proofs.Common.{◌≡◌, ◌+◌, ◌++◌, drop, map}
use Rattle.gu_session.specs.Steps.{kept_from, report_body}
use Rattle.gu_session.proofs.replying.tell_reports.Given as goal

abbrev pub invariant-loop-report : goal.invariant-loop-report
invariant-loop-report l = record {
  added : l.fresh ++ kept_from l.time l.number (map (report_body l.time) (drop l.report-index l.reports))
      ≡ l.initial.fresh ++ kept_from l.time l.next (map (report_body l.time) l.reports);
  number : l.number ≡ l.next + l.report-index;
}
