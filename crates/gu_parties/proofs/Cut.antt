-- How a text is cut at its first separator.
use Rattle.std.proofs.Common.{◌≡◌, ◌≤◌, ◌<◌, ℕ, ◌+◌, ◌-◌, Bool, true, false, List, [], ◌∷◌, length, take, drop, refl}
use Rattle.std.proofs.Common.{arith, suc, Some, None}
use Rattle.std.specs.Prelude.{eqb, position}
use Rattle.std.specs.List.{position_or_len}
use Rattle.std.proofs.lemmas.Grind.{common_steps}
use Rattle.std.proofs.lemmas.List.{take_rest}
use Rattle.std.proofs.Math.Seq.{drop-length}
use native.Mathlib.Numerals.{unary_clauses}
use Rattle.gu_parties.specs.Words.{pieces}

-- where the separator stands
cut_some : (end : List (List ℕ)) (s : ℕ) (bs : List ℕ) (i : ℕ) → position_or_len (λ b. eqb b s) bs ≡ i → i < length bs
    → pieces end s bs ≡ take i bs ∷ pieces end s (drop (i + 1) bs)
cut_some end s [] i e h = absurd (omega arith)
cut_some end s (b ∷ bs) i e h = by (eqb b s) refl (cut_some end s bs)
  where
    by : (t : Bool) → eqb b s ≡ t
        → ((j : ℕ) → position_or_len (λ b. eqb b s) bs ≡ j → j < length bs
        → pieces end s bs ≡ take j bs ∷ pieces end s (drop (j + 1) bs))
        → pieces end s (b ∷ bs) ≡ take i (b ∷ bs) ∷ pieces end s (drop (i + 1) (b ∷ bs))
    by true t rest =
        let at : 0 ≡ i = rw t at e in
        rw (← at, t) refl
    by false t rest =
        let at : 1 + position_or_len (λ b. eqb b s) bs ≡ i = rw t at e in
        let inside : position_or_len (λ b. eqb b s) bs < length bs = omega arith in
        let next : suc (position_or_len (λ b. eqb b s) bs) ≡ i = omega arith in
        let found = rest (position_or_len (λ b. eqb b s) bs) refl inside in
        rw (← next, t, found) (simp unary_clauses)

-- and where there is none
cut_none : (s : ℕ) (bs : List ℕ) → length bs ≤ position_or_len (λ b. eqb b s) bs → pieces ([] ∷ []) s bs ≡ bs ∷ []
cut_none s [] h = refl
cut_none s (b ∷ bs) h = by (eqb b s) refl (cut_none s bs)
  where
    by : (t : Bool) → eqb b s ≡ t → (length bs ≤ position_or_len (λ b. eqb b s) bs → pieces ([] ∷ []) s bs ≡ bs ∷ [])
        → pieces ([] ∷ []) s (b ∷ bs) ≡ (b ∷ bs) ∷ []
    by true t rest = let no : suc (length bs) ≤ 0 = rw t at h in absurd (omega arith)
    by false t rest =
        let within : suc (length bs) ≤ 1 + position_or_len (λ b. eqb b s) bs = rw t at h in
        rw (t, rest (omega arith)) refl

-- the same by what a search finds
pub cut_at : (end : List (List ℕ)) (s : ℕ) (bs : List ℕ) (i : ℕ) → position (λ b. eqb b s) bs ≡ Some i
    → pieces end s bs ≡ take i bs ∷ pieces end s (take (length bs - (i + 1)) (drop (i + 1) bs))
cut_at end s bs i e =
    let at : position_or_len (λ b. eqb b s) bs ≡ i = grind (arith, common_steps) in
    let inside : i < length bs = grind (arith, common_steps) in
    rw (take_rest bs (i + 1)) (cut_some end s bs i at inside)

pub cut_not : (s : ℕ) (bs : List ℕ) → position (λ b. eqb b s) bs ≡ None → pieces ([] ∷ []) s bs ≡ bs ∷ []
cut_not s bs e =
    let none : length bs ≤ position_or_len (λ b. eqb b s) bs = grind (arith, common_steps) in
    cut_none s bs none

-- a text that isn't empty ends with its last line, with or without LF
line_none : (s : ℕ) (bs : List ℕ) → 0 < length bs → length bs ≤ position_or_len (λ b. eqb b s) bs
    → pieces [] s bs ≡ bs ∷ []
line_none s [] z h = absurd (omega arith)
line_none s (b ∷ []) z h = by (eqb b s) refl
  where
    by : (t : Bool) → eqb b s ≡ t → pieces [] s (b ∷ []) ≡ (b ∷ []) ∷ []
    by true t = let no : 1 ≤ 0 = rw t at h in absurd (omega arith)
    by false t = rw t refl
line_none s (b ∷ c ∷ bs) z h = by (eqb b s) refl (line_none s (c ∷ bs) (omega arith))
  where
    by : (t : Bool) → eqb b s ≡ t
        → (length (c ∷ bs) ≤ position_or_len (λ b. eqb b s) (c ∷ bs) → pieces [] s (c ∷ bs) ≡ (c ∷ bs) ∷ [])
        → pieces [] s (b ∷ c ∷ bs) ≡ (b ∷ c ∷ bs) ∷ []
    by true t rest = let no : suc (length (c ∷ bs)) ≤ 0 = rw t at h in absurd (omega arith)
    by false t rest =
        let within : suc (length (c ∷ bs)) ≤ 1 + position_or_len (λ b. eqb b s) (c ∷ bs) = rw t at h in
        rw (t, rest (omega arith)) refl

-- the same by what a search finds
pub line_not : (s : ℕ) (bs : List ℕ) → 0 < length bs → position (λ b. eqb b s) bs ≡ None → pieces [] s bs ≡ bs ∷ []
line_not s bs z e =
    let none : length bs ≤ position_or_len (λ b. eqb b s) bs = grind (arith, common_steps) in
    line_none s bs z none

-- the last line, and nothing behind it
pub last_line : (s : ℕ) (bs : List ℕ) → 0 < length bs → position (λ b. eqb b s) bs ≡ None
    → pieces [] s bs ≡ bs ∷ pieces [] s (take (length bs - length bs) (drop (length bs) bs))
last_line s bs z e = rw (take_rest bs (length bs), drop-length bs) (line_not s bs z e)
