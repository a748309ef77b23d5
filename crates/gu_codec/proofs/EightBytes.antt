-- Eight bytes of a slice.
use Rattle.std.proofs.Common.{◌≡◌, ℕ, ◌+◌, ◌<◌, List, get_or, take, drop, inl, inr, sym, subst, ◌∙◌, arith, length-take}
use Rattle.std.proofs.Common.{Fits, w8}
use Rattle.std.proofs.lemmas.Bool.{cases_lt}
use Rattle.std.proofs.lemmas.List.{get_or-take, get_or-drop, get_or_past}
use Rattle.gu_codec.specs.Grammar.{fits}

pub word_fits : (bytes word : List ℕ) (at : ℕ) → ((k : ℕ) → Fits w8 (get_or bytes k 0)) → word ≡ take 8 (drop at bytes)
    → (i : ℕ) → get_or word i 0 < 256
word_fits bytes word at fits same i = subst (λ (xs : List ℕ). get_or xs i 0 < 256) (sym same) (elim (cases_lt i 8) [
  | inl lt ↦
      subst (λ (x : ℕ). x < 256) (sym (get_or-take 8 (drop at bytes) i 0 lt ∙ get_or-drop at bytes i 0))
      (fits (at + i)).fits
  | inr le ↦
      subst (λ (x : ℕ). x < 256)
      (sym (get_or_past (take 8 (drop at bytes)) i 0 (omega (arith, length-take 8 (drop at bytes))))) (omega arith)
])
