-- The list in which things are filed, with the marks of those that were taken out.
use Rattle.std.specs.Prelude.{◌≡◌, ◌≢◌, ℕ, ◌+◌, ◌<◌, None, option_map, List, [], ◌∷◌, length}
use Rattle.std.specs.Prelude.{filter_map, slice_index_or, take, drop, ◌++◌}
use Rattle.gu_sums.specs.Filing.{Contents, without}
use Rattle.gu_sums.specs.declared.filing.Filed.{Filed}

-- each thing with its number, without the marks
abbrev pub kept_in : {T : Type 0} → List (Filed T) → List (ℕ × T)
kept_in fs = filter_map (λ f. option_map (λ x. (f.number, x)) f.kept) fs

-- the last number of a list, or this one where there is none
abbrev pub last_from : {T : Type 0} → ℕ → List (Filed T) → ℕ
last_from n [] = n
last_from n (f ∷ fs) = last_from f.number fs

abbrev pub contents : {T : Type 0} → List (Filed T) → Contents T
contents fs = record { kept = kept_in fs; last = last_from 0 fs }

-- the numbers rise, from above n on
abbrev pub RisesAbove : {T : Type 0} → ℕ → List (Filed T) → Type 0
RisesAbove n [] = Unit {0}
RisesAbove n (f ∷ fs) = (n < f.number) × RisesAbove f.number fs

abbrev pub IsRising : {T : Type 0} → List (Filed T) → Type 0
IsRising fs = RisesAbove 0 fs

-- the numbers rise, and so many of them are marks
pub record IsFiling {T : Type 0} (fs : List (Filed T)) (marks : ℕ) : Type 0 where
  pub rising : IsRising fs
  pub marked : marks + length (kept_in fs) ≡ length fs

-- nothing, for where a list has no more
abbrev pub no_thing : {T : Type 0} → Filed T
no_thing = record { number = 0; kept = None }

-- the number, with its thing or its mark, stands at the place i
pub record IsFiledAt {T : Type 0} (fs : List (Filed T)) (number i : ℕ) : Type 0 where
  pub in_range : i < length fs
  pub is : (slice_index_or fs i no_thing).number ≡ number

-- the number stands nowhere
abbrev pub IsNotFiled : {T : Type 0} → List (Filed T) → ℕ → Type 0
IsNotFiled fs number = (i : ℕ) → i < length fs → (slice_index_or fs i no_thing).number ≢ number

-- the number stands at the place i alone: what is left without it is what stands before and behind
pub record IsPlaceOf {T : Type 0} (fs : List (Filed T)) (number i : ℕ) : Type 0 where
  pub there : IsFiledAt fs number i
  pub left : without number (kept_in fs) ≡ kept_in (take i fs ++ drop (i + 1) fs)
