-- The walk over the entries behind a number.
use Rattle.std.proofs.Common.{◌≡◌, ℕ, zero, suc, ◌+◌, ◌-◌, ◌<◌, ◌≤◌, List, [], ◌∷◌, ◌++◌, refl, sym, ◌∙◌, ap, arith}
use Rattle.std.proofs.Common.{Option, ltb, length, drop, take, append_assoc, append-nil}
use Rattle.std.specs.Prelude.{Some, None, filter, nat_lt, slice_get, option_map}
use Rattle.std.specs.List.{filter_map, cons_option}
use Rattle.std.proofs.lemmas.Bool.Decides.{Decides-ltb}
use Rattle.std.proofs.lemmas.List.{length-append}
use Rattle.gu_base.specs.History.{numbered_as, numbered_from, records}
use Rattle.gu_base.specs.declared.entry.Entry.{Entry}
use Rattle.gu_base.specs.declared.entry.Record.{Record}
use Rattle.gu_base.specs.declared.report.Report.{Report}
use Rattle.gu_trace.specs.Filling.{told_at, told_from, filled}
use Rattle.gu_trace.specs.Reports.{told}
use Rattle.std.proofs.lemmas.Bool.{false_from_ne_true}

-- ---- the records above a number

all_behind : (after k : ℕ) (h : List Entry) → after < k
    → filter (λ r. nat_lt after r.number) (numbered_from k h) ≡ numbered_from k h
all_behind after k [] low = refl
all_behind after k (e ∷ es) low =
    rw ((Decides-ltb after k).1 low) (ap (λ rs. numbered_as k e ∷ rs) (all_behind after (k + 1) es (omega arith)))

behind_from : (after k i : ℕ) (h : List Entry) → after + 1 ≡ k + i
    → filter (λ r. nat_lt after r.number) (numbered_from k h) ≡ drop i (numbered_from k h)
behind_from after k zero [] e = refl
behind_from after k (suc i) [] e = refl
behind_from after k zero (x ∷ xs) e = all_behind after k (x ∷ xs) (omega arith)
behind_from after k (suc i) (x ∷ xs) e =
    rw (false_from_ne_true (ltb after k) (λ s. let lt : after < k = (Decides-ltb after k).0 s in omega arith))
    (behind_from after (k + 1) i xs (omega arith))

-- the records above a number are those behind that place
pub behind : (after : ℕ) (h : List Entry) → filter (λ r. nat_lt after r.number) (records h) ≡ drop after (records h)
behind after h = behind_from after 1 after h (omega arith)

-- ---- what is left of them at a place

at_place_from : (k i : ℕ) (h : List Entry) (e : Entry) → slice_get h i ≡ Some e
    → drop i (numbered_from k h) ≡ numbered_as (k + i) e ∷ drop (i + 1) (numbered_from k h)
at_place_from k i [] e found = absurd (cc)
at_place_from k zero (x ∷ xs) e found =
    let here : x ≡ e = cc in
    ap (λ y. numbered_as k y ∷ numbered_from (k + 1) xs) here
    ∙ ap (λ m. numbered_as m e ∷ numbered_from (k + 1) xs) (omega arith)
at_place_from k (suc i) (x ∷ xs) e found =
    at_place_from (k + 1) i xs e found
    ∙ (ap (λ m. numbered_as m e ∷ drop (i + 1) (numbered_from (k + 1) xs)) (omega arith)
    ∙ ap (λ m. numbered_as (k + suc i) e ∷ drop m (numbered_from k (x ∷ xs))) (more i))
  where
    more : (i : ℕ) → suc (i + 1) ≡ suc i + 1
    more i = omega arith

nothing_from : (k i : ℕ) (h : List Entry) → length h ≤ i → drop i (numbered_from k h) ≡ []
nothing_from k zero [] past = refl
nothing_from k (suc i) [] past = refl
nothing_from k zero (x ∷ xs) past = absurd (omega arith)
nothing_from k (suc i) (x ∷ xs) past = nothing_from (k + 1) i xs (omega arith)

-- what is told of the records from a place on
abbrev pub rest : (Record → Option Report) → List Entry → ℕ → List Report
rest f h i = filter_map f (drop i (records h))

pub rest_past : (f : Record → Option Report) (h : List Entry) (i : ℕ) → length h ≤ i → rest f h i ≡ []
rest_past f h i past = ap (filter_map f) (nothing_from 1 i h past)

-- what is told of the record at a place
abbrev pub TellsOf : (Record → Option Report) → List Entry → ℕ → Option Report → Type 0
TellsOf f h i o = Some o ≡ option_map (λ e. f (numbered_as (i + 1) e)) (slice_get h i)

-- the record there, then the others
step_by : (f : Record → Option Report) (h : List Entry) (i : ℕ) (o : Option Report) (found : Option Entry)
    → slice_get h i ≡ found → Some o ≡ option_map (λ e. f (numbered_as (i + 1) e)) found
    → rest f h i ≡ cons_option o (rest f h (i + 1))
step_by f h i o None there told = absurd (cc)
step_by f h i o (Some e) there told =
    let is : o ≡ f (numbered_as (i + 1) e) = cc in
    let swap : 1 + i ≡ i + 1 = omega arith in
    ap (filter_map f) (at_place_from 1 i h e there)
    ∙ (ap (λ m. cons_option (f (numbered_as m e)) (rest f h (i + 1))) swap
    ∙ ap (λ p. cons_option p (rest f h (i + 1))) (sym is))

pub rest_step : (f : Record → Option Report) (h : List Entry) (i : ℕ) (o : Option Report) → TellsOf f h i o
    → rest f h i ≡ cons_option o (rest f h (i + 1))
rest_step f h i o told = step_by f h i o (slice_get h i) refl told

-- ---- the reports found so far

take_one : (n : ℕ) (r : Report) (rs : List Report) → 1 ≤ n → take n (r ∷ rs) ≡ r ∷ take (n - 1) rs
take_one zero r rs low = absurd (omega arith)
take_one (suc n) r rs low = let e : n ≡ suc n - 1 = omega arith in ap (λ m. r ∷ take m rs) e

pub filled_more : (found : List Report) (r : Report) (rs : List Report) → length found < 100
    → filled found (r ∷ rs) ≡ filled (found ++ r ∷ []) rs
filled_more found r rs room =
    let n : 100 - length found - 1 ≡ 100 - length (found ++ r ∷ []) = rw (length-append found (r ∷ [])) (omega arith) in
    ap (λ xs. found ++ xs) (take_one (100 - length found) r rs (omega arith))
    ∙ (sym (append_assoc found (r ∷ []) (take (100 - length found - 1) rs))
    ∙ ap (λ m. (found ++ r ∷ []) ++ take m rs) n)

take_zero : (n : ℕ) (rs : List Report) → n ≡ 0 → take n rs ≡ []
take_zero n rs e = ap (λ m. take m rs) e

pub filled_full : (found others : List Report) → length found ≡ 100 → filled found others ≡ found
filled_full found others full =
    ap (λ xs. found ++ xs) (take_zero (100 - length found) others (omega arith)) ∙ append-nil found

take_nothing : (n : ℕ) → take {A = Report} n [] ≡ []
take_nothing zero = refl
take_nothing (suc n) = refl

-- nothing is left, so what was found is all
pub filled_end : (found others : List Report) → others ≡ [] → filled found others ≡ found
filled_end found others none =
    ap (λ xs. found ++ take (100 - length found) xs) none
    ∙ (ap (λ xs. found ++ xs) (take_nothing (100 - length found)) ∙ append-nil found)

-- at the start nothing is found
pub filled_start : (f : Record → Option Report) (h : List Entry) (after : ℕ)
    → filled [] (rest f h after) ≡ take 100 (filter_map f (filter (λ r. nat_lt after r.number) (records h)))
filled_start f h after = ap (λ rs. take 100 (filter_map f rs)) (sym (behind after h))

-- where the reports grow by what is told of an entry
pub filled_by : (found new others : List Report) (o : Option Report) → new ≡ found ++ cons_option o []
    → length found < 100 → filled new others ≡ filled found (cons_option o others)
filled_by found new others None is room = ap (λ xs. filled xs others) (is ∙ append-nil found)
filled_by found new others (Some r) is room = ap (λ xs. filled xs others) is ∙ sym (filled_more found r others room)

pub longer_by : (found new : List Report) (o : Option Report) → new ≡ found ++ cons_option o [] → length found < 100
    → length new ≤ 100
longer_by found new None is room =
    let long = ap (λ xs. length xs) (is ∙ append-nil found) in
    omega (arith, long, room)
longer_by found new (Some r) is room =
    let long = ap (λ xs. length xs) is in
    let more = length-append found (r ∷ []) in
    omega (arith, long, more, room)

-- ---- one step

no_entry : (h : List Entry) (i : ℕ) → slice_get h i ≡ None → i < length h → ⊥
no_entry [] i none within = omega (arith, within)
no_entry (e ∷ h) zero none within = cc
no_entry (e ∷ h) (suc i) none within = no_entry h i none (omega (arith, within))

-- what is told of the entry there
tells_by : (house : List ℕ) (h : List Entry) (f : List ℕ) (i : ℕ) (o : Option Entry) → slice_get h i ≡ o → i < length h
    → TellsOf (told house h f) h i (told_at house h f i)
tells_by house h f i None there within = absurd (no_entry h i there within)
tells_by house h f i (Some e) there within = rw there refl

-- one step of the walk
pub told_step : (house : List ℕ) (h : List Entry) (f : List ℕ) (i : ℕ) (found new whole : List Report) → i < length h
    → length found < 100 → new ≡ found ++ cons_option (told_at house h f i) []
    → filled found (told_from house h f i) ≡ whole → (filled new (told_from house h f (i + 1)) ≡ whole)
    × (length new ≤ 100)
told_step house h f i found new whole within room is so_far = (
  filled_by found new (told_from house h f (i + 1)) (told_at house h f i) is room
      ∙ (sym (ap (filled found) (rest_step (told house h f) h i (told_at house h f i)
      (tells_by house h f i (slice_get h i) refl within))) ∙ so_far),
  longer_by found new (told_at house h f i) is room,
)

-- the first 100 reports of a walk over the entries above a number
abbrev pub walk : List ℕ → List Entry → List ℕ → ℕ → List Report
walk house h f after = take 100 (filter_map (told house h f) (filter (λ r. nat_lt after r.number) (records h)))
