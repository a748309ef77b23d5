use Rattle.std.proofs.Common.{◌≡◌, ◌+◌, ◌≤◌, length, drop}
use Rattle.std.specs.Prelude.{filter}
use Rattle.gu_roll.specs.Losing.{has_consents}
use Rattle.gu_roll.proofs.lost.count_consented.Given as goal

abbrev pub invariant-loop-number : goal.invariant-loop-number
invariant-loop-number l = record {
  few : l.count ≤ l.number-index;
  rest : l.count + length (filter (has_consents l.history) (drop l.number-index l.numbers))
      ≡ length (filter (has_consents l.history) l.numbers);
}
