use Rattle.std.proofs.Common.{◌≡◌, ◌∙◌, ℕ, ◌-◌, List, [], ◌∷◌, length, sym, ap, refl, eqb, arith}
use Rattle.std.specs.Prelude.{Some, slice_get}
use Rattle.gu_trace.specs.Index.{ends_with}
use Rattle.gu_trace.proofs.firm_numbers.ends_with.Goals as goal

by_last : (n k i : ℕ) (m : ℕ) (ns : List ℕ) → i ≡ length ns → slice_get (m ∷ ns) i ≡ Some k → ends_with n (m ∷ ns)
    ≡ eqb k n
by_last n k i m [] at last =
    let there : slice_get (m ∷ []) 0 ≡ Some k = ap (λ j. slice_get (m ∷ []) j) (sym at) ∙ last in
    let here : m ≡ k = cc in ap (λ x. eqb x n) here
by_last n k i m (j ∷ ms) at last =
    by_last n k (length ms) j ms refl (ap (λ x. slice_get (m ∷ j ∷ ms) x) (sym at) ∙ last)

last_is : (n k : ℕ) (ns : List ℕ) → slice_get ns (length ns - 1) ≡ Some k → ends_with n ns ≡ eqb k n
last_is n k [] last = absurd (cc)
last_is n k (m ∷ ms) last = by_last n k (length (m ∷ ms) - 1) m ms (omega arith) last

pub returns-in-Some : goal.returns-in-Some
returns-in-Some c = c.eq.ensures ∙ sym (last_is c.args.number c.in-Some.last.now c.args.numbers.now
    (sym c.in-Some.ensures.value))
