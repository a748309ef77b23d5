use Rattle.std.proofs.Common.{◌≡◌, ℕ, List, drop}
use Rattle.std.specs.Prelude.{bytes_eq}
use Rattle.std.specs.List.{All, list_any}
use Rattle.gu_trace.specs.Index.{numbers_of, filed, CanPut}
use Rattle.gu_trace.proofs.firm_numbers.FirmNumbers.put_parts.Given as goal

abbrev pub invariant-loop-part : goal.invariant-loop-part
invariant-loop-part l = record {
  ready : All (λ p. CanPut l.self l.number p.firm) (drop l.part-index l.parts);
  rest : (f : List ℕ) → filed l.number (list_any (λ p. bytes_eq p.firm f) (drop l.part-index l.parts))
      (numbers_of l.self f)
      ≡ filed l.number (list_any (λ p. bytes_eq p.firm f) l.parts) (numbers_of l.initial.self f);
}
