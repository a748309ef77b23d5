use Rattle.std.proofs.Common.{◌≡◌, drop}
use Rattle.gu_status.specs.Parts.{first_late}
use Rattle.gu_status.proofs.parts.first_late.Given as goal

abbrev pub invariant-loop-at : goal.invariant-loop-at
invariant-loop-at l = record {
  left : first_late l.now l.most l.number (drop l.at-index l.workers) ≡ first_late l.now l.most 0 l.workers;
  next : l.number ≡ l.at-index;
}
