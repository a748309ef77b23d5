-- Things filed under rising numbers, and what is found among them.
use Rattle.gu_sums.specs
use Rattle.std
use Rattle.gu_base.proofs.Basics.{none_or_some}
use specs.declared.filing.Filed.{Filed}
use specs.Filed.{contents, IsFiledAt, IsFiling, IsNotFiled, IsPlaceOf, IsRising, kept_in, last_from, no_thing}
use specs.Filed.{RisesAbove}
use specs.Filing.{Contents, IsFiled, IsTakenOut, kept_at, without}
use std.proofs.Common.{add-one, ap, arith, drop, Err, false, get_or, IfOk, inl, inr, length, List, None, Ok, OnErr}
use std.proofs.Common.{Option, refl, Result, set, Some, suc, sym, take, zero, [], ℕ, ◌++◌, ◌+◌, ◌-◌, ◌<◌}
use std.proofs.Common.{◌∙◌, ◌∷◌, ◌≡◌, ◌≤◌}
use std.proofs.lemmas.Bool.{cases_Bool, Decides.nat_tests, eq-eqb, eqb-false, eqb-true, ne_eqb}
use std.proofs.lemmas.{Cmp.ranked, List.{Elements.filter_map-append, length-append, length-set, nil_from_length}}
use std.proofs.lemmas.{List.Sorted.IsNonDecreasingBy-from_default, Map.Entries.lookup-filter-keys}
use std.specs.List.{cons_option, Sorted.{IsBinarySearchResult, IsNonDecreasingBy, IsSearchInRange}}
use std.specs.{Map.{lookup, remove_entry}, Ordering.{nat_cmp, ordering_index}}
use std.specs.Prelude.{filter, if◌then◌else◌, is_some, not, option_map, slice_get, ◌==◌}

module _ {T : Type 0} where
  abbrev at : ℕ → List (ℕ × T) → Option T
  at k l = lookup (λ m. m == k) l

  -- a number with its thing or its mark, before others
  abbrev before : ℕ → Option T → List (ℕ × T) → List (ℕ × T)
  before n o l = cons_option (option_map (λ x. (n, x)) o) l

  at_other : (n k : ℕ) (o : Option T) (l : List (ℕ × T)) → (n == k) ≡ false → at k (before n o l) ≡ at k l
  at_other n k None l other = refl
  at_other n k (Some x) l other = rw other refl

  pub at_nowhere : (fs : List (Filed T)) (e : ℕ) → IsNotFiled fs e → at e (kept_in fs) ≡ None
  at_nowhere [] e absent = refl
  at_nowhere (f ∷ fs) e absent =
      at_other f.number e f.kept (kept_in fs) (ne_eqb f.number e (absent 0 (omega arith)))
      ∙ at_nowhere fs e (λ i low. absent (suc i) (omega arith))

  last_above : (n : ℕ) (fs : List (Filed T)) → RisesAbove n fs → n ≤ last_from n fs
  last_above n [] rises = omega arith
  last_above n (f ∷ fs) rises = omega (arith, last_above f.number fs rises.1)

  none_past : (n : ℕ) (fs : List (Filed T)) (k : ℕ) → RisesAbove n fs → last_from n fs < k → at k (kept_in fs) ≡ None
  none_past n [] k rises past = refl
  none_past n (f ∷ fs) k rises past =
      at_other f.number k f.kept (kept_in fs) (ne_eqb f.number k
      (λ same. omega (arith, last_above f.number fs rises.1)))
      ∙ none_past f.number fs k rises.1 past

  -- ---- the numbers, by their places

  abbrev number_at : List (Filed T) → ℕ → ℕ
  number_at fs i = (get_or fs i no_thing).number

  rises_at : (n : ℕ) (fs : List (Filed T)) (i : ℕ) → RisesAbove n fs → i < length fs → n < number_at fs i
  rises_at n [] i rises within = omega arith
  rises_at n (f ∷ fs) zero rises within = rises.0
  rises_at n (f ∷ fs) (suc i) rises within = omega (arith, rises_at f.number fs i rises.1 (omega arith))

  none_below : (n : ℕ) (fs : List (Filed T)) (k : ℕ) → RisesAbove n fs → k ≤ n → at k (kept_in fs) ≡ None
  none_below n fs k rises low = at_nowhere fs k (λ i within is. omega (arith, is, rises_at n fs i rises within))

  rises_between : (n : ℕ) (fs : List (Filed T)) (i j : ℕ) → RisesAbove n fs → i < j → j < length fs
      → number_at fs i < number_at fs j
  rises_between n [] i j rises lt within = omega arith
  rises_between n (f ∷ fs) i zero rises lt within = omega arith
  rises_between n (f ∷ fs) zero (suc j) rises lt within = rises_at f.number fs j rises.1 (omega arith)
  rises_between n (f ∷ fs) (suc i) (suc j) rises lt within =
      rises_between f.number fs i j rises.1 (omega arith) (omega arith)

  -- ---- one more, after all others

  last_filed : (n : ℕ) (fs : List (Filed T)) (f : Filed T) → last_from n (fs ++ f ∷ []) ≡ f.number
  last_filed n [] f = refl
  last_filed n (g ∷ fs) f = last_filed g.number fs f

  rises_filed : (n : ℕ) (fs : List (Filed T)) (f : Filed T) → RisesAbove n fs → last_from n fs < f.number
      → RisesAbove n (fs ++ f ∷ [])
  rises_filed n [] f rises past = (past, tt)
  rises_filed n (g ∷ fs) f rises past = (rises.0, rises_filed g.number fs f rises.1 past)

  at_filed : (l : List (ℕ × T)) (n k : ℕ) (x : T) → at n l ≡ None
      → at k (l ++ (n, x) ∷ []) ≡ (if n == k then Some x else at k l)
  at_filed [] n k x none = refl
  at_filed (p ∷ l) n k x none = elim (cases_Bool (p.0 == n)) [
    | inl own ↦ absurd (cc)
    | inr other ↦ elim (cases_Bool (p.0 == k)) [
      | inl is ↦ rw (is, ne_eqb n k (λ same. eqb-false p.0 n other (eqb-true p.0 k is ∙ sym same))) refl
      | inr apart ↦ rw apart (at_filed l n k x (rw other at none))
    ]
  ]

  -- ---- one taken out

  none_taken : (l : List (ℕ × T)) (n : ℕ) → at n l ≡ None → without n l ≡ l
  none_taken [] n none = refl
  none_taken (p ∷ l) n none = elim (cases_Bool (p.0 == n)) [
    | inl own ↦ absurd (cc)
    | inr other ↦ rw (other, none_taken l n (rw other at none)) refl
  ]

  -- the list with a mark for the thing that stands at a place
  record IsMarked (n number : ℕ) (fs gs : List (Filed T)) : Type 0 where
    rises : RisesAbove n gs
    last : last_from n gs ≡ last_from n fs
    kept : kept_in gs ≡ without number (kept_in fs)
    removed : kept_in gs ≡ remove_entry (λ k. k == number) (kept_in fs)
    fewer : length (kept_in gs) + 1 ≡ length (kept_in fs)

  marked : (n : ℕ) (fs : List (Filed T)) (number i : ℕ) (x : T) (u : Filed T) → RisesAbove n fs → IsFiledAt fs number i
      → u ≡ get_or fs i u → u.kept ≡ Some x
      → IsMarked n number fs (set fs i (record { number = number; kept = None }))
  marked n [] number i x u rises there here is = absurd (omega (arith, there.in_range))
  marked n (f ∷ fs) number zero x u rises there here is =
      let kept : f.kept ≡ Some x = cc in
      let same : number ≡ f.number = cc there.is in
      let own = eq-eqb f.number f.number refl in
      rw same (record {
        rises = rises;
        last = refl;
        kept = rw (kept, own) (sym (none_taken (kept_in fs) f.number (none_below f.number fs f.number rises.1
            (omega arith))));
        removed = rw (kept, own) refl;
        fewer = rw kept (omega arith);
      })
  marked n (f ∷ fs) number (suc i) x u rises there here is =
      let low : i < length fs = omega (arith, there.in_range) in
      let m = marked f.number fs number i x u rises.1 (record { in_range = low; is = there.is }) here is in
      let other = ne_eqb f.number number (λ same. omega (arith, there.is, rises_at f.number fs i rises.1 low)) in
      elim (none_or_some f.kept) [
        | inl none ↦ rw none (record {
          rises = (rises.0, m.rises);
          last = m.last;
          kept = m.kept;
          removed = m.removed;
          fewer = m.fewer;
        })
        | inr (y, some) ↦ rw some (record {
          rises = (rises.0, m.rises);
          last = m.last;
          kept = rw other (ap (λ l. (f.number, y) ∷ l) m.kept);
          removed = rw other (ap (λ l. (f.number, y) ∷ l) m.removed);
          fewer = omega (arith, m.fewer);
        })
      ]

  at_taken : (l : List (ℕ × T)) (n k : ℕ) → at k (without n l) ≡ (if n == k then None else at k l)
  at_taken l n k = lookup-filter-keys (λ m. m == k) (λ m. not (m == n)) (not (n == k))
      (λ m is. grind (arith, nat_tests)) l
      ∙ elim (cases_Bool (n == k)) [ inl is ↦ rw is refl | inr other ↦ rw other refl ]

  -- ---- the marks left out

  rises_lower : (m n : ℕ) (fs : List (Filed T)) → m ≤ n → RisesAbove n fs → RisesAbove m fs
  rises_lower m n [] low rises = tt
  rises_lower m n (f ∷ fs) low rises = (omega arith, rises.1)

  last_lower : (m n : ℕ) (fs : List (Filed T)) → m ≤ n → last_from m fs ≤ last_from n fs
  last_lower m n [] low = low
  last_lower m n (f ∷ fs) low = omega arith

  pub record IsSwept (n : ℕ) (fs gs : List (Filed T)) : Type 0 where
    pub rises : RisesAbove n gs
    pub last : last_from n gs ≤ last_from n fs
    pub kept : kept_in gs ≡ kept_in fs
    pub full : length (kept_in gs) ≡ length gs
    pub fewer : length gs ≤ length fs

  pub swept : (n : ℕ) (fs : List (Filed T)) → RisesAbove n fs → IsSwept n fs (filter (λ f. is_some f.kept) fs)
  swept n [] rises = record { rises = tt; last = omega arith; kept = refl; full = refl; fewer = omega arith }
  swept n (f ∷ fs) rises =
      let s = swept f.number fs rises.1 in
      let left = filter (λ f. is_some f.kept) fs in
      elim (none_or_some f.kept) [
        | inl none ↦ rw none (record {
          rises = rises_lower n f.number left (omega arith) s.rises;
          last = omega (arith, s.last, last_lower n f.number left (omega arith));
          kept = s.kept;
          full = s.full;
          fewer = omega (arith, s.fewer);
        })
        | inr (x, some) ↦ rw some (record {
          rises = (rises.0, s.rises);
          last = s.last;
          kept = ap (λ l. (f.number, x) ∷ l) s.kept;
          full = ap suc s.full;
          fewer = omega (arith, s.fewer);
        })
      ]

  -- ---- the last

  last_there : (n : ℕ) (fs : List (Filed T)) (k : ℕ) (f : Filed T) → k + 1 ≡ length fs → slice_get fs k ≡ Some f
      → last_from n fs ≡ f.number
  last_there n [] k f whole is = absurd (omega arith)
  last_there n (g ∷ fs) zero f whole is = rw (nil_from_length fs (omega arith)) (cc)
  last_there n (g ∷ fs) (suc k) f whole is = last_there g.number fs k f (omega arith) is

  pub last_is : (fs : List (Filed T)) (f : Filed T) → slice_get fs (length fs - 1) ≡ Some f → last_from 0 fs ≡ f.number
  last_is [] f is = absurd (cc)
  last_is (g ∷ fs) f is = last_there 0 (g ∷ fs) (length (g ∷ fs) - 1) f (omega arith) is

  -- ---- the search

  module _ (fs : List (Filed T)) (rising : IsRising fs) (e : ℕ) where
    -- the comparisons with the number rise along the list, as a binary search asks
    comparisons_rise : IsNonDecreasingBy (λ f. ordering_index (nat_cmp f.number e)) fs
    comparisons_rise =
        IsNonDecreasingBy-from_default (λ f. ordering_index (nat_cmp f.number e)) fs no_thing (λ i j le in_range.
        let rise : number_at fs i ≤ number_at fs j = grind (
          arith,
          rises_between 0 fs i j rising,
          λ (same : i ≡ j). ap (number_at fs) same,
        ) in
        grind (arith, nat_tests))

    -- a binary search by number ends where the number stands, or it stands nowhere
    pub searched : (r : Result ℕ ℕ) → IsSearchInRange r (length fs)
        → IsBinarySearchResult (λ f. nat_cmp f.number e) fs r
        → record { found : IfOk r (IsFiledAt fs e); absent : OnErr r (IsNotFiled fs e) }
    searched (Ok at) in_range equal =
        record { found = record { in_range = in_range; is = ranked _ e _ (sym (equal no_thing)) }; absent = tt }
    searched (Err at) in_range parted = record {
      found = tt;
      absent = λ i lt is.
          let below : i < at → number_at fs i < e = λ h.
          ranked _ e _ (sym ((parted comparisons_rise).0 i no_thing (omega arith) h)) in
          let above : at ≤ i → e < number_at fs i = λ h.
          ranked _ e _ (sym ((parted comparisons_rise).1 i no_thing h lt)) in
          grind (arith, below, above);
    }

  -- ---- what is found

  found_here : (m e : ℕ) (o : Option T) (l : List (ℕ × T)) → m ≡ e → at e l ≡ None → o ≡ at e (before m o l)
  found_here m e None l same none = sym none
  found_here m e (Some x) l same none = rw (eq-eqb m e same) refl

  pub at_found : (n : ℕ) (fs : List (Filed T)) (e i : ℕ) (u : Filed T) → RisesAbove n fs → IsFiledAt fs e i
      → u ≡ get_or fs i u → u.kept ≡ at e (kept_in fs)
  at_found n [] e i u rises there is = absurd (omega (arith, there.in_range))
  at_found n (f ∷ fs) e zero u rises there is =
      ap (λ (z : Filed T). z.kept) is ∙ found_here f.number e f.kept (kept_in fs) there.is
      (none_below f.number fs e rises.1 (omega (arith, there.is)))
  at_found n (f ∷ fs) e (suc i) u rises there is =
      let low : i < length fs = omega (arith, there.in_range) in
      at_found f.number fs e i u rises.1 (record { in_range = low; is = there.is }) is
      ∙ sym (at_other f.number e f.kept (kept_in fs) (ne_eqb f.number e
      (λ same. omega (arith, there.is, rises_at f.number fs i rises.1 low))))

  -- ---- what the calls leave

  pub file_leaves : (fs : List (Filed T)) (marks n : ℕ) (x : T) → IsFiling fs marks → last_from 0 fs < n
      → (let gs = fs ++ record { number = n; kept = Some x } ∷ [] in
      IsFiling gs marks × IsFiled (contents fs) (contents gs) n x)
  file_leaves fs marks n x is past =
      let f : Filed T = record { number = n; kept = Some x } in
      let kept : kept_in (fs ++ f ∷ []) ≡ kept_in fs ++ (n, x) ∷ [] =
      filter_map-append (λ (f : Filed T). option_map (λ (x : T). (f.number, x)) f.kept) fs (f ∷ []) in
      let none = none_past 0 fs n is.rising past in (
        record {
          rising = rises_filed 0 fs f is.rising past;
          marked = omega (arith, ap length kept, length-append (kept_in fs) ((n, x) ∷ []), length-append fs (f ∷ []));
        },
        record {
          kept = kept;
          last = last_filed 0 fs f;
          none = none;
          at = λ k. ap (at k) kept ∙ at_filed (kept_in fs) n k x none;
        },
      )

  pub take_leaves : (fs : List (Filed T)) (marks n i : ℕ) (x : T) (u : Filed T) → IsFiling fs marks → IsFiledAt fs n i
      → u ≡ get_or fs i u → u.kept ≡ Some x
      → (let gs = set fs i (record { number = n; kept = None }) in
      IsFiling gs (marks + 1) × IsTakenOut (contents fs) (contents gs) n)
  take_leaves fs marks n i x u is there here kept =
      let m = marked 0 fs n i x u is.rising there here kept in
      let found : at n (kept_in fs) ≡ Some x = sym (at_found 0 fs n i u is.rising there here) ∙ kept in (
        record { rising = m.rises; marked = omega (arith, length-set fs i (record { number = n; kept = None })) },
        record {
          kept = m.kept;
          last = m.last;
          at = λ k. ap (at k) m.kept ∙ at_taken (kept_in fs) n k;
          removed = rw found m.removed;
          none = rw found tt;
        },
      )

  -- nothing is taken out where nothing is filed
  pub none_leaves : (c : Contents T) (n : ℕ) → kept_at c n ≡ None → IsTakenOut c c n
  none_leaves c n none = record {
    kept = sym (none_taken c.kept n none);
    last = refl;
    at = λ k. elim (cases_Bool (n == k)) [
      | inl same ↦ rw (same, ← eqb-true n k same) none
      | inr other ↦ rw other refl
    ];
    removed = rw none tt;
    none = rw none refl;
  }

  -- ---- where a number stands

  -- a number stands at one place
  pub one_place : (fs : List (Filed T)) (e i j : ℕ) → IsRising fs → IsFiledAt fs e i → IsFiledAt fs e j → i ≡ j
  one_place fs e i j rising at_i at_j =
      let up = rises_between 0 fs i j rising in
      let down = rises_between 0 fs j i rising in
      grind (arith, up, down, at_i.is, at_j.is, at_i.in_range, at_j.in_range)

  without_other : (m e : ℕ) (o : Option T) (l : List (ℕ × T)) → (m == e) ≡ false
      → without e (before m o l) ≡ before m o (without e l)
  without_other m e None l other = refl
  without_other m e (Some x) l other = rw other refl

  without_own : (m e : ℕ) (o : Option T) (l : List (ℕ × T)) → m ≡ e → without e (before m o l) ≡ without e l
  without_own m e None l same = refl
  without_own m e (Some x) l same = rw (eq-eqb m e same) refl

  left_by : (n : ℕ) (fs : List (Filed T)) (e i : ℕ) → RisesAbove n fs → IsFiledAt fs e i
      → without e (kept_in fs) ≡ kept_in (take i fs ++ drop (suc i) fs)
  left_by n [] e i rises there = absurd (omega (arith, there.in_range))
  left_by n (f ∷ fs) e zero rises there =
      without_own f.number e f.kept (kept_in fs) there.is
      ∙ none_taken (kept_in fs) e (none_below f.number fs e rises.1 (omega (arith, there.is)))
  left_by n (f ∷ fs) e (suc i) rises there =
      let low : i < length fs = omega (arith, there.in_range) in
      let below : IsFiledAt fs e i = record { in_range = low; is = there.is } in
      without_other f.number e f.kept (kept_in fs) (ne_eqb f.number e
      (λ same. omega (arith, there.is, rises_at f.number fs i rises.1 low)))
      ∙ ap (before f.number f.kept) (left_by f.number fs e i rises.1 below)

  pub place_of : (fs : List (Filed T)) (e i : ℕ) → IsRising fs → IsFiledAt fs e i → IsPlaceOf fs e i
  place_of fs e i rising there = record { there = there; left = rw add-one (left_by 0 fs e i rising there) }

  -- a mark stays what it is
  marked_same : (fs : List (Filed T)) (e i : ℕ) (u : Filed T) → IsFiledAt fs e i → u ≡ get_or fs i u → u.kept ≡ None
      → fs ≡ set fs i (record { number = e; kept = None })
  marked_same [] e i u there here is = absurd (omega (arith, there.in_range))
  marked_same (f ∷ fs) e zero u there here is =
      let mark : f.kept ≡ None = cc in
      rw (← there.is, ← mark) refl
  marked_same (f ∷ fs) e (suc i) u there here is =
      let below : IsFiledAt fs e i = record { in_range = omega (arith, there.in_range); is = there.is } in
      ap (λ l. f ∷ l) (marked_same fs e i u below here is)

  -- what was a mark already is the same at each place of the number
  pub marked_before : (fs : List (Filed T)) (e i : ℕ) (u : Filed T) → IsRising fs → IsFiledAt fs e i → u ≡ get_or fs i u
      → u.kept ≡ None → (j : ℕ) → IsFiledAt fs e j → fs ≡ set fs j (record { number = e; kept = None })
  marked_before fs e i u rising there here is j other =
      rw (one_place fs e j i rising other there) (marked_same fs e i u there here is)

  pub marked_there : (fs : List (Filed T)) (e i : ℕ) → IsRising fs → IsFiledAt fs e i → (j : ℕ) → IsFiledAt fs e j
      → set fs i (record { number = e; kept = None }) ≡ set fs j (record { number = e; kept = None })
  marked_there fs e i rising there j other = rw (one_place fs e j i rising other there) refl
