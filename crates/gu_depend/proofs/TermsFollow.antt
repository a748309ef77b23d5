-- What keeps terms those of a list of changes: a pair made ready, one change more behind it, and one change less on
-- which nothing stands.
use Rattle.gu_depend.proofs
use proofs.Deals.{accepted_there, at_pair, both_same, deal, dealings_append}
use proofs.Deals.{dealings_cut, dealings_grown, dealt, deed_grown, deed_in, left_out, numbered, pair, pair_in, undealt}
use proofs.Finds.{alike_at, all_in, and_then_told, by_test, cut_at, find_filter, found_once, none_before, some_with}
use proofs.{Grown.{Grown, NamesThere, ThereFor, Within}, LastMoves.IsBefore}
use proofs.{Replay.Legal, StandsLast.gone, StandsUnder.{can_go, in_whole}, Vocabulary.{Agreement, agreement}}
use proofs.Vocabulary.{All, All-contains, All-head, All-tail, ap, append-nil, AreTermsOf, arith, bytes_eq, cases_Bool}
use proofs.Vocabulary.{change_of, Claim, Command, cond, Contains, Dealing, dealings, dealings_in, Decides-eqb}
use proofs.Vocabulary.{Deed, eqb_symm, false, find-append, found_in, House, inl, inr, IsSomeAnd, List, name_same, None}
use proofs.Vocabulary.{not, Option, option_and_then, or_none, Pair, pair_at, pair_of, PairView, place_of_pair, Record}
use proofs.Vocabulary.{refl, Some, standing_on, sym, TermsView, true, without, [], ℕ, ◌&&◌, ◌++◌, ◌==◌, ◌∙◌, ◌∷◌, ◌≡◌}
use Rattle.gu_fees.specs.Terms.{IsPut, IsReadied, IsRowAfter, IsSameRow, IsTakenOut, row_of}
use Rattle.std.proofs.lemmas.List.Elements.{Contains-push_cases}

-- ---- pairs

-- where the pair of a change stands
abbrev pub pair_place : TermsView → List Record → Record → Option ℕ
pair_place v l d = option_and_then (place_of_pair v) (pair_in l d)

-- a change whose node is there is of the same pair in both lists
pub pair_grown : (l b : List Record) (by : List ℕ) (c : Command) → Within l b → ThereFor b c
    → pair_of b by c ≡ pair_of l by c
pair_grown l b by (Claim n _) w there =
    let node = there n (name_same n) in cc (w.nodes n node.0 node.1)
pair_grown l b by _ w there = refl

-- what holds of one pair, and of each other, holds of all
pub of_pairs : (P : List ℕ → List ℕ → Type 0) (g k : List ℕ) → P g k
    → ((x y : List ℕ) → (bytes_eq g x && bytes_eq k y) ≡ false → P x y) → (x y : List ℕ) → P x y
of_pairs P g k own others x y = elim (cases_Bool _) [
  | inl is ↦ at_pair P g k x y is own
  | inr is ↦ others x y is
]

-- a row with the terms of the house table and what is dealt
abbrev pub IsRowOf : House → List Record → List ℕ → List ℕ → PairView → Type 0
IsRowOf t l g k q = (q.file ≡ agreement t g k) × (q.dealings ≡ dealings l g k)

-- a pair has a row, and each pair that deals
abbrev HasRow : TermsView → Pair → Type 0
HasRow v p = (q : PairView) × (row_of v p.giver p.taker ≡ Some q)

abbrev HasRows : TermsView → List Record → Type 0
HasRows v l = (d : Record) (p : Pair) → Contains l d → pair_in l d ≡ Some p → HasRow v p

-- from the one row to the other: the new one is of the list, and there where the old one was
abbrev Moved : House → List Record → TermsView → TermsView → List ℕ → List ℕ → Type 0
Moved t m v w x y =
    ((row : PairView) → row_of w x y ≡ Some row → IsRowOf t m x y row)
    × ((row : PairView) → row_of v x y ≡ Some row → (there : PairView) × (row_of w x y ≡ Some there))

module _ (t : House) (l m : List Record) (v w : TermsView) (are : AreTermsOf t l v) where
  -- the row of a pair of which something more, or less, is dealt
  row_moved : (x y : List ℕ) (after : List Dealing → List Dealing) → dealings m x y ≡ after (dealings l x y)
      → IsSomeAnd (row_of v x y) (λ q. IsSomeAnd (row_of w x y) (λ p. (p.file ≡ q.file)
      × (p.dealings ≡ after q.dealings))) → Moved t m v w x y
  row_moved x y after is told =
      let old = some_with _ (row_of v x y) told in
      let new = some_with _ (row_of w x y) old.1.1 in
      let were = are.rows x y old.0 old.1.0 in
      (λ q e. (cc, cc), λ q e. (new.0, new.1.0))

  -- a row that doesn't move, of a pair for which nothing more and nothing less is dealt
  row_kept : (x y : List ℕ) → row_of w x y ≡ row_of v x y → dealings m x y ≡ dealings l x y → Moved t m v w x y
  row_kept x y same dealt =
      (λ row e. let old = are.rows x y row (sym same ∙ e) in (old.0, cc), λ row e. (row, same ∙ e))

  -- where one pair has a new row, and the others have the rows and the dealings that they had
  rows_moved : (p : Pair) (o : Option Pair) → o ≡ Some p → Moved t m v w p.giver p.taker
      → ((x y : List ℕ) → (bytes_eq p.giver x && bytes_eq p.taker y) ≡ false → row_of w x y ≡ row_of v x y)
      → ((x y : List ℕ) → (o ≡ pair x y → ⊥) → dealings m x y ≡ dealings l x y) → (x y : List ℕ) → Moved t m v w x y
  rows_moved p o of new rows dealt =
      of_pairs _ _ _ new (λ x y is. row_kept x y (rows x y is) (dealt x y (λ same. cc (both_same x y))))

  -- what was ready stays ready, and what is read in each row is of the list
  are_moved : ((x y : List ℕ) → Moved t m v w x y) → HasRows v m
      → ((n : ℕ) → pair_at w n ≡ option_and_then (pair_place w m) (change_of m n)) → AreTermsOf t m w
  are_moved moved ready placed = record {
    rows = λ x y. (moved x y).0;
    ready = λ d p among e. let row = ready d p among e in (moved _ _).1 row.0 row.1;
    placed = placed;
  }

-- ---- one more change

module _ (t : House) (l : List Record) (r : Record) (before : IsBefore t l r) where
  abbrev more : List Record
  more = l ++ r ∷ []

  own_there : NamesThere l r
  own_there = accepted_there t l _ _ before.accepted

  pair_more : pair_in more r ≡ pair_in l r
  pair_more = sym (pair_grown _ l _ _ before.grown.within own_there)

  pair_old : (d : Record) → Contains l d → pair_in more d ≡ pair_in l d
  pair_old d among =
      sym (pair_grown _ l _ _ before.grown.within
      (All-contains (NamesThere l) l d before.grown.named among))

  dealings_more : (x y : List ℕ) (o : Option Deed) → deed_in l x y r ≡ o
      → dealings more x y ≡ dealings l x y ++ dealt r o []
  dealings_more x y o e =
      let same = deed_grown _ l x y _ _ before.grown.within own_there in
      cc (dealings_cut _ l r [] x y o (sym same ∙ e), dealings_grown _ l x y before.grown)

  dealings_same : (x y : List ℕ) → (pair_in l r ≡ pair x y → ⊥) → dealings more x y ≡ dealings l x y
  dealings_same x y other = dealings_more x y None (undealt l x y _ _ other) ∙ append-nil _

  -- the number is new
  new_number : (n : ℕ) → (r.number == n) ≡ true → change_of l n ≡ None
  new_number n is = none_before _ l r [] (before.once n) is

  -- the place of the change, and of those before it
  placed_more : (v : TermsView) (n : ℕ)
      → cond (r.number == n) (pair_place v l r) (option_and_then (pair_place v l) (change_of l n))
      ≡ option_and_then (pair_place v more) (change_of more n)
  placed_more v n = elim (cases_Bool (r.number == n)) [
    | inl is ↦ cc (new_number n is, pair_more, find-append _ l (r ∷ []))
    | inr other ↦ (
        let alike = alike_at _ _ _
        (λ d e. ap (option_and_then (place_of_pair v)) (pair_old d (found_in (λ d. d.number == n) l d e))) in
        cc (find-append (λ d. d.number == n) l (r ∷ []), or_none (change_of l n)))
  ]

  -- the rows of the changes before it are there, and so those of all, if its own is
  ready_more : (v : TermsView) → AreTermsOf t l v → ((p : Pair) → pair_in l r ≡ Some p → HasRow v p) → HasRows v more
  ready_more v are own d p among e = elim (Contains-push_cases l r d among) [
    | inl in_l ↦ are.ready d p in_l (sym (pair_old d in_l) ∙ e)
    | inr last ↦ own p (cc pair_more)
  ]

  -- ---- that deals for nobody

  module _ (v : TermsView) (are : AreTermsOf t l v) (none : pair_in l r ≡ None) where
    -- the terms stay those of the list
    pub apart_follows : AreTermsOf t more v
    apart_follows =
        are_moved t l more v v are (λ x y. row_kept t l more v v are x y refl (dealings_same x y (λ same. cc)))
        (ready_more v are (λ p e. cc))
        (λ n.
        by_test _ (λ is. cc (are.placed n, new_number n is, placed_more v n))
        (λ other. cc (are.placed n, placed_more v n)))

  -- ---- that deals for a pair

  module _ (v w : TermsView) (g k : List ℕ) (d : Deed) (are : AreTermsOf t l v)
      (deals : deed_in l g k r ≡ Some d)
      (put : IsPut v w g k (record { number = r.number; deed = d })) where
    -- the terms that it was put into are those of the longer list
    pub put_follows : AreTermsOf t more w
    put_follows =
        let of = (deal l _ _ g k d deals).of in
        are_moved t l more v w are
        (rows_moved t l more v w are (record { giver = g; taker = k }) (pair_in l r) of
        (row_moved t l more v w are g k (λ ds. ds ++ numbered r d ∷ []) (dealings_more g k _ deals) put.own)
        put.others dealings_same)
        (ready_more v are (λ p e. let row = some_with _ (row_of v g k) put.own in (row.0, cc)))
        (λ n. rw put.places (cc (put.placed n, are.placed n, placed_more v n)))

-- ---- one change less

module _ (t : House) (l : List Record) (k : Record) (legal : Legal t l) (among : Contains l k)
    (free : standing_on t l k.number ≡ None) where
  abbrev less : List Record
  less = without l k.number

  grown : Grown l less
  grown = (can_go t l k legal among free).grown

  -- those for whom it doesn't deal have what they had
  dealings_kept : (x y : List ℕ) → (pair_in l k ≡ pair x y → ⊥) → dealings less x y ≡ dealings l x y
  dealings_kept x y other =
      let c = cut_at l k among in
      cc (
        dealings_grown l _ x y grown,
        c.is,
        gone t c.before k c.behind (rw c.is at legal),
        dealings_append l c.before c.behind x y,
        dealings_cut l c.before k c.behind x y None (undealt l x y k.firm k.command other),
      )

  pair_less : (d : Record) → Contains less d → pair_in less d ≡ pair_in l d
  pair_less d in_less = pair_grown l _ _ _ grown.within (All-contains (NamesThere less) _ d grown.named in_less)

  change_k : change_of l k.number ≡ Some k
  change_k = found_once _ l k among ((Decides-eqb k.number k.number).1 refl) (legal.once k.number)

  change_less : (n : ℕ) → change_of less n ≡ cond (not (n == k.number)) (change_of l n) None
  change_less n = find_filter _ _ _ l (λ d same. rw ((Decides-eqb d.number n).0 same))

  -- the place of each change but the one
  placed_less : (v : TermsView) (n : ℕ) → cond (k.number == n) None (option_and_then (pair_place v l) (change_of l n))
      ≡ option_and_then (pair_place v less) (change_of less n)
  placed_less v n = elim (cases_Bool (k.number == n)) [
    | inl is ↦ cc (eqb_symm _ n, change_less n)
    | inr other ↦ (
        let alike = alike_at _ (pair_place v l) (change_of less n)
        (λ d e. ap (option_and_then (place_of_pair v)) (pair_less d (found_in (λ r. r.number == n) less d e))) in
        cc (eqb_symm k.number n, change_less n))
  ]

  ready_less : (v : TermsView) → AreTermsOf t l v → HasRows v less
  ready_less v are d p in_less e = are.ready d p (in_whole l k.number d in_less) (sym (pair_less d in_less) ∙ e)

  -- ---- that deals for a pair

  module _ (v w : TermsView) (p : Pair) (are : AreTermsOf t l v) (of : pair_in l k ≡ Some p)
      (taken : IsTakenOut v w k.number) where
    -- the terms that it was taken out of are those of the others
    pub taken_follows : AreTermsOf t less w
    taken_follows =
        let at_k : pair_at v k.number ≡ place_of_pair v p = cc (are.placed k.number, change_k) in
        let there = are.ready k p among of in
        let place = and_then_told _ _ _ there.1 in
        let dealt = dealings_grown l _ _ _ grown ∙ sym (left_out l _ _ _ l) in
        are_moved t l less v w are
        (rows_moved t l less v w are p (pair_in l k) of
        (row_moved t l less v w are _ _ _ dealt (taken.own p.giver p.taker place.0 (at_k ∙ place.1.0) place.1.0))
        (λ x y differ.
        taken.others x y (λ i at same. let is = taken.apart p.giver p.taker x y i (sym at_k ∙ at) same in
        cc))
        dealings_kept) (ready_less v are)
        (λ n. rw taken.places (cc (taken.placed n, are.placed n, placed_less v n)))

  -- ---- that deals for nobody

  module _ (v : TermsView) (are : AreTermsOf t l v) (nobody : pair_in l k ≡ None) where
    pub nobody_follows : AreTermsOf t less v
    nobody_follows =
        are_moved t l less v v are (λ x y. row_kept t l less v v are x y refl (dealings_kept x y (λ same. cc)))
        (ready_less v are)
        (λ n.
        by_test _ (λ is. cc (are.placed n, (Decides-eqb k.number n).0 is, change_k, placed_less v n))
        (λ other. cc (are.placed n, placed_less v n)))

-- ---- a pair made ready

-- terms without rows and entries are those of no changes
pub none_follow : (t : House) (v : TermsView) → ((g k : List ℕ) → row_of v g k ≡ None) → ((n : ℕ) → pair_at v n ≡ None)
    → AreTermsOf t [] v
none_follow t v rows entries = record {
  rows = λ g k row e. cc (rows g k);
  ready = λ r p among e. absurd (omega arith);
  placed = entries;
}

-- where nobody deals for a pair, nothing is dealt
nobody_deals : (l among : List Record) (g k : List ℕ) → All (λ r. deed_in l g k r ≡ None) among
    → dealings_in l among g k ≡ []
nobody_deals l [] g k none = refl
nobody_deals l (r ∷ among) g k none =
    let idle = λ (r : Record). deed_in l g k r ≡ None in
    cc (All-head idle r _ none, nobody_deals l among g k (All-tail idle r among none))

module _ (t : House) (l : List Record) (v : TermsView) (are : AreTermsOf t l v) where
  pub without_row : (g k : List ℕ) → row_of v g k ≡ None → dealings l g k ≡ []
  without_row g k none =
      nobody_deals l l g k
      (all_in (λ r. deed_in l g k r ≡ None) l
      (λ r among. undealt l g k _ _ (λ e. let row = are.ready r _ among e in cc)))

  module _ (w : TermsView) (g k : List ℕ) (readied : IsReadied v w g k (agreement t g k)) where
    row_ready : (x y : List ℕ) (o n : Option PairView) → row_of v x y ≡ o → row_of w x y ≡ n
        → IsRowAfter o (agreement t x y) n → Moved t l v w x y
    row_ready x y None None old new after = (λ row e. cc, λ row e. cc)
    row_ready x y None (Some p) old new after =
        let nothing = without_row x y old in
        (λ row e. (cc, cc), λ row e. cc)
    row_ready x y (Some r) n old new after = row_moved t l l v w are x y (λ ds. ds) refl (rw (old, new) after)

    same_after : (file : Option Agreement) (o n : Option PairView) → IsSameRow o n → IsRowAfter o file n
    same_after file None n same = rw same tt
    same_after file (Some r) None same = same
    same_after file (Some r) (Some p) same = same

    -- a pair with a row stands where it stood
    same_place : (p : Pair) (q : PairView) → row_of v p.giver p.taker ≡ Some q → place_of_pair v p ≡ place_of_pair w p
    same_place p q there =
        let place = and_then_told _ _ q there in
        cc (readied.places p.giver p.taker place.0 place.1.0)

    -- terms stay those of the list
    pub readied_follows : AreTermsOf t l w
    readied_follows =
        are_moved t l l v w are
        (of_pairs _ g k (row_ready g k _ _ refl refl readied.own)
        (λ x y is. row_ready x y _ _ refl refl (same_after _ _ _ (readied.others x y is))))
        are.ready
        (λ n. rw readied.entries (are.placed n ∙ alike_at _ _ _
        (λ r e. alike_at _ _ _ (λ p is.
        let row = are.ready r p (found_in _ l r e) is in same_place p row.0 row.1))))
