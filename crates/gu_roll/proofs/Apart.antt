-- The first place at which two openings aren't the same, from a place on.
use Rattle.std.proofs.Common.{◌≡◌, ℕ, zero, suc, ◌+◌, Bool, List, [], ◌∷◌, drop, Some}
use Rattle.std.proofs.Common.{refl, ap, ◌∙◌, arith, cond}
use Rattle.std.specs.Prelude.{slice_get, if◌then◌else◌}
use Rattle.gu_base.specs.declared.house.Pair.{Pair}
use Rattle.gu_base.specs.declared.house.Agreement.{Agreement}
use Rattle.gu_roll.specs.Lack.{first_apart, same_options}

abbrev Line : Type 0
Line = Pair × Agreement

-- all but the first
abbrev behind : List Line → List Line
behind [] = []
behind (x ∷ xs) = xs

drop_behind : (i : ℕ) (xs : List Line) → drop (suc i) xs ≡ drop i (behind xs)
drop_behind zero [] = refl
drop_behind (suc i) [] = refl
drop_behind i (x ∷ xs) = refl

get_behind : (i : ℕ) (xs : List Line) → slice_get xs (suc i) ≡ slice_get (behind xs) i
get_behind zero [] = refl
get_behind (suc i) [] = refl
get_behind i (x ∷ xs) = refl

-- what is told from a place on: this place, or what is told from the next one on
pub apart_at : (n i : ℕ) (us ts : List Line) → first_apart n (drop i us) (drop i ts)
    ≡ (if same_options (slice_get us i) (slice_get ts i) then first_apart (n + 1) (drop (i + 1) us) (drop (i + 1) ts)
    else Some n)
apart_at n zero [] [] = refl
apart_at n zero [] (t ∷ ts) = refl
apart_at n zero (u ∷ us) [] = refl
apart_at n zero (u ∷ us) (t ∷ ts) = refl
apart_at n (suc i) us ts =
    let e : suc i + 1 ≡ suc (i + 1) = omega arith in
    rw (
      e,
      drop_behind i us,
      drop_behind i ts,
      get_behind i us,
      get_behind i ts,
      drop_behind (i + 1) us,
      drop_behind (i + 1) ts,
    )
    (apart_at n i (behind us) (behind ts))

-- the same where it is known whether the place is the same
pub told_apart : (n i : ℕ) (us ts : List Line) (b : Bool) → same_options (slice_get us i) (slice_get ts i) ≡ b
    → first_apart n (drop i us) (drop i ts)
    ≡ (if b then first_apart (n + 1) (drop (i + 1) us) (drop (i + 1) ts) else Some n)
told_apart n i us ts b is =
    apart_at n i us ts
    ∙ ap (λ (a : Bool). cond a (first_apart (n + 1) (drop (i + 1) us) (drop (i + 1) ts)) (Some n)) is
