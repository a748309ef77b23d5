use Rattle.gu_base.specs.History.{numbered_as}
use Rattle.gu_trace.proofs.Within.{within_found}
use Rattle.gu_trace.proofs.telling.reversal_report.Goals as goal

pub change_report-requires : goal.change_report-requires
change_report-requires c =
    within_found c.args.entries.now c.args.named (numbered_as c.args.named c.in-Some.change.now) c.requires.within
    c.in-Some.ensures
