use Rattle.std.proofs.Common.{◌≡◌, ℕ, List, take}
use Rattle.std.specs.List.{All}
use Rattle.gu_trace.specs.Index.{numbers_of, CanPut}
use Rattle.gu_trace.proofs.firm_numbers.FirmNumbers.ready_parts.Given as goal

abbrev pub invariant-loop-part : goal.invariant-loop-part
invariant-loop-part l = record {
  ready : All (λ p. (n : ℕ) → CanPut l.self n p.firm) (take l.part-index l.parts);
  same : (f : List ℕ) → numbers_of l.self f ≡ numbers_of l.initial.self f;
  stays_ready : (n : ℕ) (f : List ℕ) → CanPut l.initial.self n f → CanPut l.self n f;
}
