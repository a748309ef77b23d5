-- Sums that grow with a list.
use Rattle.std.proofs.Common.{◌≡◌, ℕ, zero, suc, ◌+◌, ◌<◌, ◌≤◌, List, [], ◌∷◌, length, take, Option}
use Rattle.std.proofs.Common.{Some, None, refl, sym, ◌∙◌, ap}
use Rattle.std.proofs.Common.{arith}
use Rattle.std.specs.Prelude.{slice_get, sum_by, map}
use Rattle.std.proofs.lemmas.List.{length-map, take_all}
use Rattle.std.proofs.lemmas.List.Sums.{sum_by-cons}
use Rattle.gu_statement.specs.Control.{count_some}

-- one element more
pub summed : {A : Type 0} (f : A → ℕ) (xs : List A) (i : ℕ) → i < length xs
    → sum_by f (take (i + 1) xs) ≡ sum_by f (take i xs) + count_some f (slice_get xs i)
summed f [] i within = absurd (omega arith)
summed f (y ∷ xs) zero within = let one = sum_by-cons f y [] in omega (arith, one)
summed f (y ∷ xs) (suc i) within =
    let more : suc i + 1 ≡ suc (i + 1) = omega arith in
    let e = ap (λ m. sum_by f (take m (y ∷ xs))) more in
    omega (
      arith,
      e,
      sum_by-cons f y (take (i + 1) xs),
      sum_by-cons f y (take i xs),
      summed f xs i (omega arith),
    )

-- a sum so far goes on
pub goes_on : {A : Type 0} (f : A → ℕ) (xs : List A) (i total more new : ℕ) → i < length xs
    → total ≡ sum_by f (take i xs) → more ≡ count_some f (slice_get xs i) → new ≡ total + more
    → new ≡ sum_by f (take (i + 1) xs)
goes_on f xs i total more new within so_far next sum = omega (arith, so_far, next, sum, summed f xs i within)

-- up to its end
pub all_of : {A : Type 0} (f : A → ℕ) (xs : List A) (i total : ℕ) → length xs ≤ i → total ≡ sum_by f (take i xs)
    → total ≡ sum_by f xs
all_of f xs i total past so_far = so_far ∙ ap (sum_by f) (take_all i xs past)

-- a list of numbers is as long as what they are of
pub as_long : {A : Type 0} (f : A → ℕ) (ns : List ℕ) (xs : List A) → ns ≡ map f xs → length ns ≡ length xs
as_long f ns xs is = ap length is ∙ length-map xs f

-- a first element, counted last
pub with_first : {A : Type 0} (f : A → ℕ) (x : A) (xs : List A) (total all : ℕ) → total ≡ sum_by f xs →
    all ≡ total + f x
    → all ≡ sum_by f (x ∷ xs)
with_first f x xs total all so_far last = omega (arith, so_far, last, sum_by-cons f x xs)
