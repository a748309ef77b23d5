use Rattle.std.proofs.Common.{◌≡◌, ◌+◌, ◌++◌, drop}
use Rattle.gu_status.specs.Metrics.{refusals_text}
use Rattle.gu_status.proofs.figures.push_refusals.Given as goal

abbrev pub invariant-loop-count : goal.invariant-loop-count
invariant-loop-count l = record {
  told : l.text.items ++ refusals_text l.reason (drop l.count-index l.refused) ≡ l.initial.text.items
      ++ refusals_text 1 l.refused;
  next : l.reason ≡ l.count-index + 1;
}
