use Rattle.gu_base.proofs.cells.Cells.of_text.Given as goal
use Rattle.gu_base.proofs.Copied.{IsCopied}

abbrev pub invariant-loop-i : goal.invariant-loop-i
invariant-loop-i g l = IsCopied g.row.CAP l.lowest l.text l.i l.cells
