-- The terms of all givers and takers, as they are kept.
use Rattle.std.specs.Prelude.{◌≡◌, ℕ, ◌≤◌, ◌<◌, ◌&&◌, true, false, if◌then◌else◌, List, [], ◌∷◌}
use Rattle.std.specs.Prelude.{◌++◌, length, Option, Some, None, IfSome, IsSomeAnd, option_map}
use Rattle.std.specs.Prelude.{option_and_then, unwrap_or, slice_get, ◌==◌, bytes_eq}
use Rattle.std.specs.Map.{lookup}
use Rattle.gu_base.specs.Dealt.{leave_out}
use Rattle.gu_base.specs.declared.house.Agreement.{Agreement}
use Rattle.gu_base.specs.declared.house.Dealing.{Dealing}
use Rattle.gu_base.specs.declared.house.Pair.{Pair}
use Rattle.gu_fees.specs.Rows.{is_pair}
use Rattle.gu_sums.specs.Filing.{Contents, kept_at, last_of}
use Rattle.gu_fees.specs.Pairs.{PairView, HasRoomFor, standing_under}

-- where each pair stands among the pairs, the pairs, under the number of each entry where its pair
-- stands, and how many more entries take no memory
pub record TermsView : Type 0 where
  pub places : List (Pair × ℕ)
  pub pairs : List PairView
  pub entries : Contents ℕ
  pub room : ℕ

-- the row of a giver and a taker
abbrev pub row_of : TermsView → List ℕ → List ℕ → Option PairView
row_of v giver taker = option_and_then (slice_get v.pairs) (lookup (is_pair giver taker) v.places)

-- where the pair of an entry stands
abbrev pub pair_at : TermsView → ℕ → Option ℕ
pair_at v entry = kept_at v.entries entry

-- the last number of an entry that was put in, 0 where there is none
abbrev pub last_entry : TermsView → ℕ
last_entry v = last_of v.entries

-- how many entries the pair at this place has
abbrev pub entries_in : List PairView → ℕ → ℕ
entries_in pairs i = unwrap_or (option_map (λ r. length r.dealings) (slice_get pairs i)) 0

-- what stands on an entry of the pair at this place
abbrev pub standing_in : List PairView → ℕ → ℕ → Option ℕ
standing_in pairs i entry =
    option_and_then (λ r. standing_under r.file r.dealings entry) (slice_get pairs i)

-- each pair that has a place has a row, and no two have one
pub record AreApart (places : List (Pair × ℕ)) (pairs : List PairView) : Type 0 where
  pub there : (g k : List ℕ) (i : ℕ) → lookup (is_pair g k) places ≡ Some i → i < length pairs
  pub apart : (g k x y : List ℕ) (i : ℕ) → lookup (is_pair g k) places ≡ Some i
      → lookup (is_pair x y) places ≡ Some i → (bytes_eq g x && bytes_eq k y) ≡ true

-- no row has an entry above the last
abbrev pub AreBelow : List PairView → Contents ℕ → Type 0
AreBelow pairs entries =
    (i : ℕ) (r : PairView) → slice_get pairs i ≡ Some r → r.last ≤ last_of entries

-- the pair is ready, the number is above all that were put in, and the sums of the pair stay
-- numbers of 64 bits
pub record CanPut (v : TermsView) (giver taker : List ℕ) (d : Dealing) : Type 0 where
  pub room : 1 ≤ v.room
  pub above : last_entry v < d.number
  pub pair : IsSomeAnd (row_of v giver taker) (λ r. (1 ≤ r.room) × HasRoomFor r.dealings d.deed)

-- the same of the pair at this place
pub record CanPutAt (v : TermsView) (place : ℕ) (d : Dealing) : Type 0 where
  pub room : 1 ≤ v.room
  pub above : last_entry v < d.number
  pub pair : IsSomeAnd (slice_get v.pairs place) (λ r. (1 ≤ r.room) × HasRoomFor r.dealings d.deed)

-- the row has the terms and the dealings of the other, if there is one
abbrev pub IsSameRow : Option PairView → Option PairView → Type 0
IsSameRow None o = o ≡ None
IsSameRow (Some r) None = ⊥
IsSameRow (Some r) (Some q) = (q.file ≡ r.file) × (q.dealings ≡ r.dealings)

-- a row that was there is the same, and a new one has these terms of the house table alone
abbrev pub IsRowAfter : Option PairView → Option Agreement → Option PairView → Type 0
IsRowAfter None file o = IfSome o (λ q. (q.file ≡ file) × (q.dealings ≡ []))
IsRowAfter (Some r) file o = IsSomeAnd o (λ q. (q.file ≡ r.file) × (q.dealings ≡ r.dealings))

-- the pair may have a row where it had none, and all else is as it was
pub record IsReadied (old new : TermsView) (giver taker : List ℕ) (file : Option Agreement) : Type 0
  where
    pub own : IsRowAfter (row_of old giver taker) file (row_of new giver taker)
    pub others : (g k : List ℕ) → (bytes_eq giver g && bytes_eq taker k) ≡ false
        → IsSameRow (row_of old g k) (row_of new g k)
    pub places : (g k : List ℕ) (i : ℕ) → lookup (is_pair g k) old.places ≡ Some i
        → lookup (is_pair g k) new.places ≡ Some i
    pub entries : new.entries ≡ old.entries

-- there is room for an entry of the pair
pub record IsReady (v : TermsView) (giver taker : List ℕ) : Type 0 where
  pub room : 1 ≤ v.room
  pub pair : IsSomeAnd (row_of v giver taker) (λ r. 1 ≤ r.room)

-- the entry stands behind the others of its pair, and all other pairs are as they were
pub record IsPut (old new : TermsView) (giver taker : List ℕ) (d : Dealing) : Type 0 where
  pub own : IsSomeAnd (row_of old giver taker)
      (λ r. IsSomeAnd (row_of new giver taker) (λ q. (q.file ≡ r.file)
      × (q.dealings ≡ r.dealings ++ d ∷ [])))
  pub others : (g k : List ℕ) → (bytes_eq giver g && bytes_eq taker k) ≡ false
      → row_of new g k ≡ row_of old g k
  pub placed : (n : ℕ) → pair_at new n ≡ (if d.number
      == n then lookup (is_pair giver taker) old.places else pair_at old n)
  pub places : new.places ≡ old.places
  pub last : last_entry new ≡ d.number

-- the entry is left out of its pair, if it was put in, and all other pairs are as they were; no two
-- pairs have one place
pub record IsTakenOut (old new : TermsView) (entry : ℕ) : Type 0 where
  pub own : (g k : List ℕ) (i : ℕ) → pair_at old entry ≡ Some i
      → lookup (is_pair g k) old.places ≡ Some i
      → IsSomeAnd (row_of old g k) (λ r. IsSomeAnd (row_of new g k) (λ q. (q.file ≡ r.file)
      × (q.dealings ≡ leave_out entry r.dealings)))
  pub others : (g k : List ℕ) → ((i : ℕ) → pair_at old entry ≡ Some i
      → lookup (is_pair g k) old.places ≡ Some i → ⊥) → row_of new g k ≡ row_of old g k
  pub placed : (n : ℕ) → pair_at new n ≡ (if entry == n then None else pair_at old n)
  pub places : new.places ≡ old.places
  pub apart : (g k x y : List ℕ) (i : ℕ) → lookup (is_pair g k) old.places ≡ Some i
      → lookup (is_pair x y) old.places ≡ Some i → (bytes_eq g x && bytes_eq k y) ≡ true
  pub last : last_entry new ≡ last_entry old
