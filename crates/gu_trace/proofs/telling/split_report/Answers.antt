use Rattle.gu_trace.proofs.Shown.{shown_fit}
use Rattle.gu_trace.proofs.telling.split_report.Goals as goal

pub lots_of-lots-requires : goal.lots_of-lots-requires
lots_of-lots-requires c =
    rw (c.as_slice.ensures.value, c.in_ok-shown.ensures)
    (shown_fit c.args.firm.now c.args.number c.args.e.now.firm c.args.parts.now c.requires)
