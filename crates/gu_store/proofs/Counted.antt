-- The bytes of a file up to its first zero.
use Rattle.gu_store.specs.Zeros.{counted, HasNoZero, HasZero, zeros}
use Rattle.std.proofs.Common.{ap, arith, get_or, inl, inr, length, List, refl, suc, take, zero, [], ℕ, ◌++◌, ◌<◌, ◌∷◌}
use Rattle.std.proofs.Common.{◌≡◌, ◌≤◌, ◌⊎◌}

-- behind bytes of which none is zero, it goes on
pub counted_behind : (front more : List ℕ) → HasNoZero front → counted (front ++ more) ≡ front ++ counted more
counted_behind [] more none = refl
counted_behind (zero ∷ front) more none = absurd (omega (arith, none 0 0 (omega arith)))
counted_behind (suc b ∷ front) more none = ap (λ (l : List ℕ). suc b ∷ l)
    (counted_behind front more (λ k d h. none (suc k) d (omega (arith, h))))

-- it has no zero
pub counted_none : (file : List ℕ) → HasNoZero (counted file)
counted_none (suc b ∷ file) zero d h = omega arith
counted_none (suc b ∷ file) (suc k) d h = counted_none file k d (omega (arith, h))
counted_none _ k d h = absurd (omega (arith, h))

-- it is no longer than the file
pub counted_fits : (file : List ℕ) → length (counted file) ≤ length file
counted_fits (suc b ∷ file) = omega (arith, counted_fits file)
counted_fits _ = omega arith

-- and ends at one, where the file goes on
pub counted_ends : (file : List ℕ) → length (counted file) < length file → get_or file (length (counted file)) 0 ≡ 0
counted_ends [] less = absurd (omega (arith, less))
counted_ends (zero ∷ file) less = refl
counted_ends (suc b ∷ file) less = counted_ends file (omega (arith, less))

-- the file begins with it
pub counted_reads : (file : List ℕ) (i : ℕ) → i < length (counted file) → get_or file i 0 ≡ get_or (counted file) i 0
counted_reads [] i l = refl
counted_reads (zero ∷ file) i l = absurd (omega (arith, l))
counted_reads (suc b ∷ file) zero l = refl
counted_reads (suc b ∷ file) (suc i) l = counted_reads file i (omega (arith, l))

-- of a file that begins with zeros
pub counted_zeros : (n : ℕ) (more : List ℕ) → 0 < n → counted (zeros n ++ more) ≡ []
counted_zeros zero more some = absurd (omega (arith, some))
counted_zeros (suc n) more some = refl

-- a file with a zero somewhere
pub has_zero : (file : List ℕ) (i : ℕ) → i < length file → get_or file i 0 ≡ 0 → HasZero file
has_zero [] i l is = absurd (omega (arith, l))
has_zero (zero ∷ file) i l is = omega arith
has_zero (suc b ∷ file) zero l is = absurd (omega (arith, is))
has_zero (suc b ∷ file) (suc i) l is = omega (arith, has_zero file i (omega (arith, l)) is)

-- Each byte is zero or that of a group, and behind these stands a zero: up to the first one stands
-- a front of the group, or all of it.
pub counted_mixed : (group file : List ℕ)
    → ((i : ℕ) → i < length group → (get_or file i 0 ≡ 0) ⊎ (get_or file i 0 ≡ get_or group i 0))
    → get_or file (length group) 0 ≡ 0
    → (k : ℕ) × (counted file ≡ take k group)
counted_mixed [] (suc b ∷ file) each ends = absurd (omega (arith, ends))
counted_mixed (g ∷ group) (suc b ∷ file) each ends =
    let more = counted_mixed group file (λ i l. each (suc i) (omega (arith, l))) ends in
    elim (each 0 (omega arith)) [
      | inl none ↦ absurd (omega (arith, none))
      | inr same ↦ (suc more.0, (λ j. same j ∷ more.1 j))
    ]
counted_mixed _ _ each ends = (0, refl)
