-- A table gets the new number of one old number more.
use Rattle.std.proofs.Common.{◌≡◌, ℕ, zero, suc, ◌+◌, ◌-◌, ◌<◌, ◌≤◌, Bool, true, false, List, [], ◌∷◌, length}
use Rattle.std.proofs.Common.{drop, get_or, sym, ◌∙◌, ap, subst, arith, cond, refl, slice_set}
use Rattle.std.specs.Prelude.{slice_get, ◌==◌, Some, Option}
use Rattle.std.specs.List.{Contains}
use Rattle.std.proofs.lemmas.Bool.{eqb-true, ne_eqb}
use Rattle.std.proofs.lemmas.List.{drop_more}
use Rattle.std.proofs.lemmas.Map.Made.{Contains-tail}
use Rattle.gu_base.proofs.Basics.{either_way}
use Rattle.gu_base.specs.SamePartsLaws.{number_same}
use Rattle.gu_roll.specs.Numbering.{found_or, new_in, place_among}

-- ---- one cell of a table

pub get_set_same : {A : Type 0} (xs : List A) (i : ℕ) (v : A) → i < length xs → slice_get (slice_set xs i v) i ≡ Some v
get_set_same [] i v within = absurd (omega (arith, within))
get_set_same (x ∷ xs) zero v within = refl
get_set_same (x ∷ xs) (suc i) v within = get_set_same xs i v (omega (arith, within))

pub get_set_other : {A : Type 0} (xs : List A) (i j : ℕ) (v : A) → (j ≡ i → ⊥)
    → slice_get (slice_set xs i v) j ≡ slice_get xs j
get_set_other [] i j v other = refl
get_set_other (x ∷ xs) zero zero v other = absurd (other refl)
get_set_other (x ∷ xs) zero (suc j) v other = refl
get_set_other (x ∷ xs) (suc i) zero v other = refl
get_set_other (x ∷ xs) (suc i) (suc j) v other = get_set_other xs i j v (λ e. other (ap suc e))

-- ---- what is told from a place on

no_both : (b : Bool) → b ≡ true → b ≡ false → ⊥
no_both b on off = absurd (cc)

eqb_of : (x n : ℕ) → x ≡ n → (x == n) ≡ true
eqb_of x n e = subst (λ (m : ℕ). (x == m) ≡ true) e (number_same x)

abbrev pub TellsFrom : List ℕ → ℕ → ℕ → List (Option ℕ) → Type 0
TellsFrom numbers most p table = (n : ℕ) → Contains (drop p numbers) n → 1 ≤ n → n ≤ most
    → new_in table n ≡ p + place_among (drop p numbers) n + 1

-- that of a list with one number more at its front
tells_cons : (rest : List ℕ) (most p q x : ℕ) (table : List (Option ℕ)) → q ≡ p + 1 → 1 ≤ x → most ≤ length table
    → ((n : ℕ) → Contains rest n → 1 ≤ n → n ≤ most → new_in table n ≡ q + place_among rest n + 1)
    → (n : ℕ) → Contains (x ∷ rest) n → 1 ≤ n → n ≤ most
    → new_in (slice_set table (x - 1) (Some q)) n ≡ p + place_among (x ∷ rest) n + 1
tells_cons rest most p q x table next some long told n among low high =
    either_way (λ (k : ℕ). new_in (slice_set table (x - 1) (Some q)) n ≡ p + k + 1) (x == n) 0 (place_among rest n + 1)
    here later
  where
    here : (x == n) ≡ true → new_in (slice_set table (x - 1) (Some q)) n ≡ p + 0 + 1
    here is =
        let same : x ≡ n = eqb-true x n is in
        let cell : slice_get (slice_set table (x - 1) (Some q)) (n - 1) ≡ Some (Some q) =
        subst (λ (m : ℕ). slice_get (slice_set table (x - 1) (Some q)) (m - 1) ≡ Some (Some q)) same
        (get_set_same table (x - 1) (Some q) (omega (arith, some, long, same, high))) in
        ap (found_or n) cell ∙ omega (arith, next)

    later : (x == n) ≡ false → new_in (slice_set table (x - 1) (Some q)) n ≡ p + (place_among rest n + 1) + 1
    later other =
        let apart : x ≡ n → ⊥ = λ e. absurd (no_both (x == n) (eqb_of x n e) other) in
        let cell : slice_get (slice_set table (x - 1) (Some q)) (n - 1) ≡ slice_get table (n - 1) =
        get_set_other table (x - 1) (n - 1) (Some q) (λ e. apart (omega (arith, e, some, low))) in
        let old = told n (Contains-tail x rest n apart among) low high in
        ap (found_or n) cell ∙ omega (arith, old, next)

-- a number outside the table stands for none that is asked for
tells_past : (rest : List ℕ) (most p q x : ℕ) (table : List (Option ℕ)) → q ≡ p + 1 → most < x
    → ((n : ℕ) → Contains rest n → 1 ≤ n → n ≤ most → new_in table n ≡ q + place_among rest n + 1)
    → (n : ℕ) → Contains (x ∷ rest) n → 1 ≤ n → n ≤ most
    → new_in table n ≡ p + place_among (x ∷ rest) n + 1
tells_past rest most p q x table next past told n among low high =
    let apart : x ≡ n → ⊥ = λ e. omega (arith, e, past, high) in
    let old = told n (Contains-tail x rest n apart among) low high in
    let step : place_among (x ∷ rest) n ≡ place_among rest n + 1 =
    ap (λ (b : Bool). cond b 0 (place_among rest n + 1)) (ne_eqb x n apart) in
    omega (arith, old, next, step)

-- one step back
pub tells_more : (numbers : List ℕ) (most p x : ℕ) (table : List (Option ℕ)) → 1 ≤ p
    → drop (p - 1) numbers ≡ x ∷ drop p numbers → 1 ≤ x → length table ≡ most → TellsFrom numbers most p table
    → TellsFrom numbers most (p - 1) (slice_set table (x - 1) (Some p))
tells_more numbers most p x table some cut low long told n among =
    let step =
    tells_cons (drop p numbers) most (p - 1) p x table (omega (arith, some)) low (omega (arith, long)) told n in
    subst (λ (l : List ℕ). Contains l n → 1 ≤ n → n ≤ most
    → new_in (slice_set table (x - 1) (Some p)) n ≡ p - 1 + place_among l n + 1) (sym cut) step among

pub tells_on : (numbers : List ℕ) (most p x : ℕ) (table : List (Option ℕ)) → 1 ≤ p
    → drop (p - 1) numbers ≡ x ∷ drop p numbers → most < x → TellsFrom numbers most p table
    → TellsFrom numbers most (p - 1) table
tells_on numbers most p x table some cut past told n among =
    let step = tells_past (drop p numbers) most (p - 1) p x table (omega (arith, some)) past told n in
    subst (λ (l : List ℕ). Contains l n → 1 ≤ n → n ≤ most
    → new_in table n ≡ p - 1 + place_among l n + 1) (sym cut) step among

-- the number at a place, and those behind it
pub cut_at : (numbers : List ℕ) (p x y : ℕ) → 1 ≤ p → p ≤ length numbers → y ≡ get_or numbers (p - 1) y → x ≡ y
    → drop (p - 1) numbers ≡ x ∷ drop p numbers
cut_at numbers p x y some within at same =
    let next : p - 1 + 1 ≡ p = omega (arith, some) in
    drop_more numbers (p - 1) y (omega (arith, some, within))
    ∙ ap (λ (z : ℕ). z ∷ drop (p - 1 + 1) numbers) (sym at ∙ sym same)
    ∙ ap (λ (k : ℕ). x ∷ drop k numbers) next
