-- The first of a list that fails a test, from a place on.
use Rattle.std.proofs.Common.{◌≡◌, ℕ, zero, suc, ◌+◌, Bool, true, false, List, [], ◌∷◌, drop, Some}
use Rattle.std.proofs.Common.{ap, ◌∙◌, arith, cond}
use Rattle.std.specs.Prelude.{slice_get, not}
use Rattle.gu_roll.specs.Lack.{first_without}

-- one that passes is passed over
pub passed : {A : Type 0} (test : A → Bool) (i : ℕ) (xs : List A) (x : A) → slice_get xs i ≡ Some x → test x ≡ true
    → first_without test (drop (i + 1) xs) ≡ first_without test (drop i xs)
passed test zero [] x is holds = absurd (cc)
passed test zero (y ∷ xs) x is holds =
    let same : y ≡ x = cc in
    let e : true ≡ test y = cc (ap test same) in
    ap (λ (b : Bool). cond (not b) (Some y) (first_without test xs)) e
passed test (suc i) [] x is holds = absurd (cc)
passed test (suc i) (y ∷ xs) x is holds =
    let e : suc i + 1 ≡ suc (i + 1) = omega arith in rw e (passed test i xs x is holds)

-- one that fails is found
pub found : {A : Type 0} (test : A → Bool) (i : ℕ) (xs : List A) (x : A) → slice_get xs i ≡ Some x → test x ≡ false
    → first_without test (drop i xs) ≡ Some x
found test zero [] x is fails = absurd (cc)
found test zero (y ∷ xs) x is fails =
    let same : y ≡ x = cc in
    let e : test y ≡ false = ap test same ∙ fails in
    ap (λ (b : Bool). cond (not b) (Some y) (first_without test xs)) e ∙ ap Some same
found test (suc i) [] x is fails = absurd (cc)
found test (suc i) (y ∷ xs) x is fails = found test i xs x is fails
