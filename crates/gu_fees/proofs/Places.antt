-- Where pairs stand, with one pair more and with one changed.
use Rattle.std.proofs
use proofs.Common.{arith, Err, false, inl, inr, length, length-append, List, Ok}
use proofs.Common.{OnErr, Option, refl, Result, suc, sym, true, zero, [], ℕ, ◌&&◌, ◌++◌, ◌+◌, ◌<◌, ◌∙◌, ◌∷◌, ◌≡◌, ◌≤◌}
use proofs.lemmas.Bool.{and_parts, cases_Bool, cases_eq, Decides.Decides-eqb, false_from_ne_true}
use proofs.lemmas.{Option.{same_Some, slice_get_cases, slice_get_past, slice_get_within}, Slice.Eq.bytes_eq-Decides}
use Rattle.gu_base.specs.declared.house.{Deed.Deed, Pair.Pair}
use Rattle.gu_fees.specs.{Pairs.{HasRoomFor, PairView}, Rows.is_pair, Terms.{AreApart, AreBelow}}
use Rattle.gu_sums.specs.Filing.{Contents}
use Rattle.std.specs.{Map.lookup, Prelude.{bytes_eq, IfSome, IsSomeAnd, None, option_and_then, slice_get, Some, ◌==◌}}

get_last : (ps : List PairView) (row : PairView) → slice_get (ps ++ row ∷ []) (length ps) ≡ Some row
get_last [] row = refl
get_last (p ∷ ps) row = get_last ps row

get_before : (ps : List PairView) (row : PairView) (i : ℕ) → i < length ps
    → slice_get (ps ++ row ∷ []) i ≡ slice_get ps i
get_before [] row i low = absurd (omega arith)
get_before (p ∷ ps) row zero low = refl
get_before (p ∷ ps) row (suc i) low = get_before ps row i (omega arith)

-- a pair has got this place, and each other the place that it had
pub record Adds (old new : List (Pair × ℕ)) (giver taker : List ℕ) (i : ℕ) : Type 0 where
  pub own : lookup (is_pair giver taker) new ≡ Some i
  pub others : (g k : List ℕ) → (bytes_eq giver g && bytes_eq taker k) ≡ false
      → lookup (is_pair g k) new ≡ lookup (is_pair g k) old

same_of : (a b x y : List ℕ) → (bytes_eq a x && bytes_eq b y) ≡ true → (a ≡ x) × (b ≡ y)
same_of a b x y h = let p = and_parts _ _ h in
    ((bytes_eq-Decides a x).0 p.0, (bytes_eq-Decides b y).0 p.1)

module _ {old new : List (Pair × ℕ)} {giver taker : List ℕ} {pairs : List PairView} (row : PairView)
    (adds : Adds old new giver taker (length pairs)) (apart : AreApart old pairs) where
  more : length (pairs ++ row ∷ []) ≡ length pairs + 1
  more = length-append pairs _

  own_place : (g k : List ℕ) (i : ℕ) → (bytes_eq giver g && bytes_eq taker k) ≡ true → lookup (is_pair g k) new ≡ Some i
      → i ≡ length pairs
  own_place g k i is at =
      let same = same_of _ _ g k is in
      same_Some i _ (cc (rw (same.0, same.1) at adds.own))

  old_place : (g k : List ℕ) (i : ℕ) → (bytes_eq giver g && bytes_eq taker k) ≡ false
      → lookup (is_pair g k) new ≡ Some i → lookup (is_pair g k) old ≡ Some i
  old_place g k i is at = cc (adds.others g k is)

  pub adds_apart : AreApart new (pairs ++ row ∷ [])
  adds_apart = record {
    there = λ g k i at. elim (cases_Bool (bytes_eq giver g && bytes_eq taker k)) [
      | inl own ↦ (let last = own_place g k i own at in omega (arith, more))
      | inr other ↦ (let low = apart.there g k i (old_place g k i other at) in omega (arith, more))
    ];
    apart = λ g k x y i at same. elim (cases_Bool (bytes_eq giver g && bytes_eq taker k)) [
      | inl own ↦ elim (cases_Bool (bytes_eq giver x && bytes_eq taker y)) [
        | inl too ↦ (
            let first = same_of _ _ g k own in
            let second = same_of _ _ x y too in
            cc (first.0, first.1, second.0, second.1))
        | inr other ↦ (
            let last = own_place g k i own at in
            let low = apart.there x y i (old_place x y i other same) in absurd (omega arith))
      ]
      | inr other ↦ elim (cases_Bool (bytes_eq giver x && bytes_eq taker y)) [
        | inl own ↦ (
            let last = own_place x y i own same in
            let low = apart.there g k i (old_place g k i other at) in absurd (omega arith))
        | inr too ↦ apart.apart g k x y i (old_place g k i other at) (old_place x y i too same)
      ]
    ];
  }

  pub own_row : option_and_then (slice_get (pairs ++ row ∷ [])) (lookup (is_pair giver taker) new) ≡ Some row
  own_row = cc (get_last pairs row)

  other_by : (g k : List ℕ) (o : Option ℕ) → lookup (is_pair g k) old ≡ o
      → option_and_then (slice_get (pairs ++ row ∷ [])) o ≡ option_and_then (slice_get pairs) o
  other_by g k None at = refl
  other_by g k (Some i) at = get_before _ row i (apart.there g k i at)

  pub other_row : (g k : List ℕ) → (bytes_eq giver g && bytes_eq taker k) ≡ false
      → option_and_then (slice_get (pairs ++ row ∷ [])) (lookup (is_pair g k) new)
      ≡ option_and_then (slice_get pairs) (lookup (is_pair g k) old)
  other_row g k is = cc (adds.others g k is, other_by g k _ refl)

pub more_below : (pairs : List PairView) (row : PairView) (entries : Contents ℕ) → AreBelow pairs entries → row.last ≡ 0
    → AreBelow (pairs ++ row ∷ []) entries
more_below pairs row entries below none = λ i r e. elim (cases_eq i (length pairs)) [
  | inl last ↦ (let same : row ≡ r = same_Some row r (cc (get_last pairs row)) in rw (← same) (omega arith))
  | inr other ↦ below i r (cc (get_before pairs row i (omega (
    arith,
    slice_get_within (pairs ++ row ∷ []) i r e,
    length-append pairs (row ∷ []),
  ))))
]

pub place_stays : {old new : List (Pair × ℕ)} {giver taker : List ℕ} {n : ℕ} → Adds old new giver taker n
    → lookup (is_pair giver taker) old ≡ None
    → (g k : List ℕ) (i : ℕ) → lookup (is_pair g k) old ≡ Some i → lookup (is_pair g k) new ≡ Some i
place_stays {old} {new} {giver} {taker} adds none g k i at = elim (cases_Bool (bytes_eq giver g && bytes_eq taker k)) [
  | inl is ↦ (let same = same_of _ _ g k is in let gone = rw (same.0, same.1) at none in cc)
  | inr is ↦ adds.others g k is ∙ at
]

-- ---- one pair changed

pub other_place : (old new : List PairView) (o : Option ℕ) (i : ℕ)
    → ((j : ℕ) → (j == i) ≡ false → slice_get new j ≡ slice_get old j) → (o ≡ Some i → ⊥)
    → option_and_then (slice_get new) o ≡ option_and_then (slice_get old) o
other_place old new None i others away = refl
other_place old new (Some j) i others away = others j (false_from_ne_true _ (λ h. away (rw ((Decides-eqb j i).0 h))))

-- no row has an entry above the last, where the changed one has none
pub below_changed : (old new : List PairView) (i : ℕ)
    → ((j : ℕ) → (j == i) ≡ false → slice_get new j ≡ slice_get old j) → (m n : ℕ) → m ≤ n
    → ((j : ℕ) (r : PairView) → slice_get old j ≡ Some r → r.last ≤ m) → IfSome (slice_get new i) (λ q. q.last ≤ n)
    → (j : ℕ) (r : PairView) → slice_get new j ≡ Some r → r.last ≤ n
below_changed old new i others m n less below own j r e = elim (cases_Bool (j == i)) [
  | inl is ↦ rw (← (Decides-eqb j i).0 is, e) at own
  | inr away ↦ (let low = below j r (sym (others j away) ∙ e) in omega arith)
]

pub apart_changed : {places : List (Pair × ℕ)} {old new : List PairView} → length new ≡ length old
    → AreApart places old → AreApart places new
apart_changed same apart =
    record { there = λ g k j at. let low = apart.there g k j at in omega arith; apart = apart.apart }

pub some_there : (pairs : List PairView) (i : ℕ) (P : PairView → Type 0) → i < length pairs
    → IfSome (slice_get pairs i) P → IsSomeAnd (slice_get pairs i) P
some_there [] i P low h = absurd (omega arith)
some_there (p ∷ pairs) zero P low h = h
some_there (p ∷ pairs) (suc i) P low h = some_there pairs i P (omega arith) h

-- the row of a pair that is ready has its numbers below a new one
pub can_by_row : (o : Option PairView) (n : ℕ) (d : Deed) → ((r : PairView) → o ≡ Some r → r.last < n)
    → IsSomeAnd o (λ r. (1 ≤ r.room) × HasRoomFor r.dealings d)
    → IsSomeAnd o (λ r. (1 ≤ r.room) × (r.last < n) × HasRoomFor r.dealings d)
can_by_row None n d below can = absurd can
can_by_row (Some r) n d below can = (can.0, below r refl, can.1)

-- the last number of a changed row, where it was one below
pub last_lower : (o n : Option PairView) (m : ℕ) → ((r : PairView) → o ≡ Some r → r.last ≤ m) → (o ≡ None → n ≡ None)
    → IfSome o (λ r. IfSome n (λ q. q.last ≤ r.last)) → IfSome n (λ q. q.last ≤ m)
last_lower None None m below none less = tt
last_lower None (Some q) m below none less = cc (none refl)
last_lower (Some r) None m below none less = tt
last_lower (Some r) (Some q) m below none less = let low = below r refl in omega arith

pub last_same : (n : Option PairView) (m : ℕ) → IfSome n (λ q. q.last ≡ m) → IfSome n (λ q. q.last ≤ m)
last_same None m h = tt
last_same (Some q) m h = omega arith

pub none_there : (old new : List PairView) (i : ℕ) → length new ≡ length old → slice_get old i ≡ None
    → slice_get new i ≡ None
none_there old new i same none = elim (slice_get_cases old i).1 [
  | inl there ↦ absurd (cc there.2)
  | inr past ↦ slice_get_past new i (omega (arith, past.0))
]

pub on_err : {A E : Type 0} {P : Type 0} (r : Result A E) → P → OnErr r P
on_err (Ok a) p = tt
on_err (Err e) p = p
