-- What deeds come to, block by block, and walks over them.
use Rattle.gu_base.specs
use Rattle.gu_fees.specs.Blocks.{AreBlocks, block_of, block_with, deeds_in, goes_on, is_under_terms, no_block}
use Rattle.gu_fees.specs.declared.blocks.Block.{Block}
use Rattle.gu_fees.specs.Pairs.{dealings_of}
use Rattle.gu_sums.specs.{declared.filing.Filed.Filed, Filed.kept_in}
use Rattle.std
use specs.Dealt.{first_over, first_under_terms}
use specs.declared.house.{Dealing.Dealing, Deed.Deed}
use specs.Terms.{raised_by_deed, raised_under, used_by_deed, used_under}
use std.proofs.Common.{add-one, ap, append_assoc, arith, drop, drop-cons, false, get_or, inl, inr, length}
use std.proofs.Common.{length-append, length-drop, length-take, List, min, refl, set, suc, sym, take, true, true≢false}
use std.proofs.Common.{zero, [], ℕ, ◌*◌, ◌++◌, ◌+◌, ◌-◌, ◌<◌, ◌∙◌, ◌∷◌, ◌≡◌, ◌≤◌}
use std.proofs.lemmas.{Bool.{cases_Bool, Decides.nat_tests, le-ltb}, List.Elements.filter_map-append, List.map-append}
use std.proofs.lemmas.List.{drop-append-le, drop-drop, drop-set-add, drop-set-lt, drop-take, drop_all, length-set}
use std.proofs.lemmas.List.{take-append-drop, take-append-le, take-set-le, take-take, take_all}
use std.proofs.lemmas.List.Sums.{sum_by-append, sum_by-cons}
use std.proofs.Math.{Bool.or-true, Seq.{take-add}}
use std.specs.{List.fold, Prelude.{nat_lt, None, Result, Some, sum_by}}

-- ---- deeds of two lists

pub deeds-append : (fs gs : List (Filed Deed)) → deeds_in (fs ++ gs) ≡ deeds_in fs ++ deeds_in gs
deeds-append fs gs = ap (λ l. dealings_of l) (filter_map-append _ fs gs) ∙ map-append _ (kept_in fs) (kept_in gs)

abbrev pub counted : (Deed → ℕ) → List (Filed Deed) → ℕ
counted count fs = sum_by (λ d. count d.deed) (deeds_in fs)

counted-append : (count : Deed → ℕ) (fs gs : List (Filed Deed))
    → counted count (fs ++ gs) ≡ counted count fs + counted count gs
counted-append count fs gs =
    ap (λ l. sum_by (λ (d : Dealing). count d.deed) l) (deeds-append fs gs)
    ∙ sum_by-append _ (deeds_in fs) (deeds_in gs)

pub counted_parts : (count : Deed → ℕ) (n : ℕ) (fs : List (Filed Deed))
    → counted count fs ≡ counted count (take n fs) + counted count (drop n fs)
counted_parts count n fs =
    ap (counted count) (sym (take-append-drop n fs)) ∙ counted-append count (take n fs) (drop n fs)

-- ---- walks, by the room between what is used and the limit

goes_past : (limit used : ℕ) (d : Dealing) (ds : List Dealing)
    → used + used_by_deed d.deed ≤ limit + raised_by_deed d.deed
    → first_over limit used (d ∷ ds) ≡ first_over (limit + raised_by_deed d.deed) (used + used_by_deed d.deed) ds
goes_past limit used d ds within = rw (le-ltb _ _ within) refl

same_room : (k limit used a b : ℕ) (ds : List Dealing) → a ≡ limit + k → b ≡ used + k
    → first_over a b ds ≡ first_over limit used ds
same_room k limit used a b [] more_a more_b = refl
same_room k limit used a b (d ∷ ds) more_a more_b =
    let next = same_room k (limit + raised_by_deed d.deed) (used + used_by_deed d.deed) (a + raised_by_deed d.deed)
    (b + used_by_deed d.deed) ds (omega arith) (omega arith) in
    let same : nat_lt (a + raised_by_deed d.deed) (b + used_by_deed d.deed)
    ≡ nat_lt (limit + raised_by_deed d.deed) (used + used_by_deed d.deed) =
    same_test _ _ _ _ (omega arith) (omega arith) in
    rw (same, next) refl
  where
    same_test : (x y v w : ℕ) → x ≡ v + k → y ≡ w + k → nat_lt x y ≡ nat_lt v w
    same_test x y v w more_x more_y = grind (arith, nat_tests)

-- a dealing for which there is room
pub goes : (room : ℕ) (d : Dealing) (ds : List Dealing) → used_by_deed d.deed ≤ room + raised_by_deed d.deed
    → first_over room 0 (d ∷ ds) ≡ first_over (room + raised_by_deed d.deed - used_by_deed d.deed) 0 ds
goes room d ds within =
    goes_past room 0 d ds (omega arith)
    ∙ same_room (used_by_deed d.deed) (room + raised_by_deed d.deed - used_by_deed d.deed) 0 _ _ ds
    (omega arith) (omega arith)

-- ---- blocks

abbrev block_from : Block → List Dealing → Block
block_from b ds = fold (λ b d. block_with b d.deed) b ds

need_grows : (b : Block) (ds : List Dealing) → b.need ≤ (block_from b ds).need
need_grows b [] = omega arith
need_grows b (d ∷ ds) = omega (arith, need_grows (block_with b d.deed) ds)

need_most : (b : Block) (ds : List Dealing) → (block_from b ds).need ≤ b.need + used_under ds
need_most b [] = omega arith
need_most b (d ∷ ds) =
    omega (arith, need_most (block_with b d.deed) ds, sum_by-cons (λ (x : Dealing). used_by_deed x.deed) d ds)

left_most : (b : Block) (ds : List Dealing) → (block_from b ds).left ≤ b.left + raised_under ds
left_most b [] = omega arith
left_most b (d ∷ ds) =
    omega (arith, left_most (block_with b d.deed) ds, sum_by-cons (λ (x : Dealing). raised_by_deed x.deed) d ds)

pub block_small : (ds : List Dealing) → ((block_of ds).need ≤ used_under ds) × ((block_of ds).left ≤ raised_under ds)
block_small ds = (omega (arith, need_most no_block ds), omega (arith, left_most no_block ds))

steps_over : (b : Block) (ds : List Dealing) (room : ℕ) (later : List Dealing) → (block_from b ds).need ≤ room
    → first_over (room - b.need + b.left) 0 (ds ++ later)
    ≡ first_over (room - (block_from b ds).need + (block_from b ds).left) 0 later
steps_over b [] room later fits = refl
steps_over b (d ∷ ds) room later fits =
    let c = block_with b d.deed in
    let grows = need_grows c ds in
    let here = room - b.need + b.left in
    let same : here + raised_by_deed d.deed - used_by_deed d.deed ≡ room - c.need + c.left = omega (arith, grows) in
    goes here d (ds ++ later) (omega (arith, grows))
    ∙ ap (λ r. first_over r 0 (ds ++ later)) same
    ∙ steps_over c ds room later fits

-- where the room is what the block needs, a walk may step over it
pub step_over : (ds : List Dealing) (room : ℕ) (later : List Dealing) → (block_of ds).need ≤ room
    → first_over room 0 (ds ++ later) ≡ first_over (room - (block_of ds).need + (block_of ds).left) 0 later
step_over ds room later fits =
    let same : room ≡ room - 0 + 0 = omega arith in
    ap (λ r. first_over r 0 (ds ++ later)) same ∙ steps_over no_block ds room later fits

-- ---- the first Raise or Claim, by blocks

under_grows : (b : Block) (ds : List Dealing) → b.has_under_terms ≡ true → (block_from b ds).has_under_terms ≡ true
under_grows b [] has = has
under_grows b (d ∷ ds) has = under_grows (block_with b d.deed) ds (rw has refl)

none_from : (b : Block) (ds later : List Dealing) → (block_from b ds).has_under_terms ≡ false
    → first_under_terms (ds ++ later) ≡ first_under_terms later
none_from b [] later none = refl
none_from b (d ∷ ds) later none = elim (cases_Bool (is_under_terms d.deed)) [
  | inl is ↦ absurd (true≢false (sym (under_grows (block_with b d.deed) ds (rw is (or-true b.has_under_terms))) ∙ none))
  | inr other ↦ rw other (none_from (block_with b d.deed) ds later none)
]

some_from : (b : Block) (ds later : List Dealing) → b.has_under_terms ≡ false → (block_from b ds).has_under_terms ≡ true
    → first_under_terms (ds ++ later) ≡ first_under_terms ds
some_from b [] later none has = absurd (true≢false (sym has ∙ none))
some_from b (d ∷ ds) later none has = elim (cases_Bool (is_under_terms d.deed)) [
  | inl is ↦ rw is refl
  | inr other ↦ rw other (some_from (block_with b d.deed) ds later (rw (none, other) refl) has)
]

pub parts_of_deeds : (n : ℕ) (fs : List (Filed Deed)) → deeds_in fs ≡ deeds_in (take n fs) ++ deeds_in (drop n fs)
parts_of_deeds n fs = ap deeds_in (sym (take-append-drop n fs)) ∙ deeds-append (take n fs) (drop n fs)

-- a block in which there is none may be stepped over
pub step_none : (b : Block) (fs : List (Filed Deed)) → b ≡ block_of (deeds_in (take 128 fs)) → b.has_under_terms ≡ false
    → first_under_terms (deeds_in (drop 128 fs)) ≡ first_under_terms (deeds_in fs)
step_none b fs is none =
    sym (ap first_under_terms (parts_of_deeds 128 fs)
    ∙ none_from no_block (deeds_in (take 128 fs)) (deeds_in (drop 128 fs)) (rw is at none))

-- in a block that has one is the first
pub step_some : (b : Block) (fs : List (Filed Deed)) → b ≡ block_of (deeds_in (take 128 fs)) → b.has_under_terms ≡ true
    → first_under_terms (deeds_in (take 128 fs)) ≡ first_under_terms (deeds_in fs)
step_some b fs is has =
    sym (ap first_under_terms (parts_of_deeds 128 fs)
    ∙ some_from no_block (deeds_in (take 128 fs)) (deeds_in (drop 128 fs)) refl (rw is at has))

-- ---- the blocks of a list

pub blocks_hold : (bs : List Block) (fs : List (Filed Deed)) → AreBlocks bs fs
    → (length bs * 128 ≤ length fs) × (length fs < length bs * 128 + 128)
blocks_hold [] fs are = (omega arith, omega (arith, are))
blocks_hold (b ∷ bs) fs are =
    let rest = blocks_hold bs (drop 128 fs) are.2 in
    (omega (arith, rest.0, are.0, length-drop 128 fs), omega (arith, rest.1, are.0, length-drop 128 fs))

-- a block that begins behind others has its place among all
pub block_there : (i : ℕ) (fs : List (Filed Deed)) → 128 ≤ length (drop (i * 128) fs) → i * 128 + 128 ≤ length fs
block_there i fs there = omega (arith, there, length-drop (i * 128) fs)

-- the deeds behind a block more
pub next_block : (i : ℕ) (fs : List (Filed Deed)) → drop 128 (drop (i * 128) fs) ≡ drop ((i + 1) * 128) fs
next_block i fs =
    let more : i * 128 + 128 ≡ (i + 1) * 128 = omega arith in drop-drop 128 (i * 128) fs ∙ ap (λ j. drop j fs) more

after_first : (i : ℕ) (fs : List (Filed Deed)) → drop (suc i * 128) fs ≡ drop (i * 128) (drop 128 fs)
after_first i fs =
    let start : suc i * 128 ≡ 128 + i * 128 = omega arith in
    ap (λ j. drop j fs) start ∙ sym (drop-drop (i * 128) 128 fs)

-- one more, which makes as many as a block has
pub put_last : (bs : List Block) (fs : List (Filed Deed)) (x : Filed Deed) → AreBlocks bs fs
    → length bs * 128 + 128 ≤ length (fs ++ x ∷ [])
    → AreBlocks (bs ++ block_of (deeds_in (drop (length bs * 128) (fs ++ x ∷ []))) ∷ []) (fs ++ x ∷ [])
put_last [] fs x are whole =
    let len = length-append fs (x ∷ []) in (
      whole,
      ap (λ l. block_of (deeds_in l)) (sym (take_all 128 (fs ++ x ∷ []) (omega (arith, len, are)))),
      omega (arith, len, are, length-drop 128 (fs ++ x ∷ [])),
    )
put_last (b ∷ bs) fs x are whole =
    let len = length-append fs (x ∷ []) in
    let behind = drop-append-le 128 fs (x ∷ []) are.0 in
    let rest = put_last bs (drop 128 fs) x are.2
    (omega (arith, whole, len, length-append (drop 128 fs) (x ∷ []), length-drop 128 fs, are.0)) in (
      omega (arith, len, are.0),
      rw (take-append-le 128 fs (x ∷ []) are.0) are.1,
      rw (after_first (length bs) (fs ++ x ∷ []), behind) rest,
    )

-- one more, which makes fewer
pub put_behind : (bs : List Block) (fs : List (Filed Deed)) (x : Filed Deed) → AreBlocks bs fs
    → length (fs ++ x ∷ []) < length bs * 128 + 128 → AreBlocks bs (fs ++ x ∷ [])
put_behind [] fs x are few = omega (arith, few)
put_behind (b ∷ bs) fs x are few =
    let len = length-append fs (x ∷ []) in
    let rest = put_behind bs (drop 128 fs) x are.2
    (omega (arith, few, len, length-append (drop 128 fs) (x ∷ []), length-drop 128 fs, are.0)) in (
      omega (arith, len, are.0),
      rw (take-append-le 128 fs (x ∷ []) are.0) are.1,
      rw (drop-append-le 128 fs (x ∷ []) are.0) rest,
    )

-- what stands behind the first block, where one in it or behind it has another in its place
behind_set : (p : ℕ) (fs : List (Filed Deed)) (f : Filed Deed) → 128 ≤ p
    → drop 128 (set fs p f) ≡ set (drop 128 fs) (p - 128) f
behind_set p fs f far =
    let there : p ≡ 128 + (p - 128) = omega arith in
    ap (λ j. drop 128 (set fs j f)) there ∙ drop-set-add 128 fs (p - 128) f

-- one in the place of another, in a block
pub renewed : (bs : List Block) (fs : List (Filed Deed)) (i p : ℕ) (f : Filed Deed) → AreBlocks bs fs → i < length bs
    → i * 128 ≤ p → p < i * 128 + 128
    → AreBlocks (set bs i (block_of (deeds_in (take 128 (drop (i * 128) (set fs p f)))))) (set fs p f)
renewed [] fs i p f are there low high = absurd (omega arith)
renewed (b ∷ bs) fs zero p f are there low high =
    (omega (arith, length-set fs p f, are.0), refl, rw (drop-set-lt 128 fs p f (omega arith)) are.2)
renewed (b ∷ bs) fs (suc i) p f are there low high =
    let behind = behind_set p fs f (omega arith) in
    let rest = renewed bs (drop 128 fs) i (p - 128) f are.2 (omega arith) (omega arith) (omega arith) in (
      omega (arith, length-set fs p f, are.0),
      rw (take-set-le 128 fs p f (omega arith)) are.1,
      rw (after_first i (set fs p f), behind) rest,
    )

-- one in the place of another, behind the blocks
pub set_behind : (bs : List Block) (fs : List (Filed Deed)) (p : ℕ) (f : Filed Deed) → AreBlocks bs fs
    → length bs * 128 ≤ p → AreBlocks bs (set fs p f)
set_behind [] fs p f are low = omega (arith, length-set fs p f, are)
set_behind (b ∷ bs) fs p f are low = (
  omega (arith, length-set fs p f, are.0),
  rw (take-set-le 128 fs p f (omega arith)) are.1,
  rw (behind_set p fs f (omega arith)) (set_behind bs (drop 128 fs) (p - 128) f are.2 (omega arith)),
)

-- the first blocks
pub blocks_before : (bs : List Block) (fs : List (Filed Deed)) (i : ℕ) → AreBlocks bs fs → i ≤ length bs
    → AreBlocks (take i bs) (take (i * 128) fs)
blocks_before bs fs zero are low = omega arith
blocks_before [] fs (suc i) are low = absurd (omega arith)
blocks_before (b ∷ bs) fs (suc i) are low =
    let start : suc i * 128 ≡ 128 + i * 128 = omega arith in
    rw start (
      omega (arith, length-take (128 + i * 128) fs, are.0),
      rw (take-take 128 (128 + i * 128) fs (omega arith)) are.1,
      rw (drop-take 128 (i * 128) fs) (blocks_before bs (drop 128 fs) i are.2 (omega arith)),
    )

-- those behind
pub blocks_behind : (bs : List Block) (fs : List (Filed Deed)) (i : ℕ) → AreBlocks bs fs
    → AreBlocks (drop i bs) (drop (i * 128) fs)
blocks_behind bs fs zero are = are
blocks_behind [] fs (suc i) are = omega (arith, are, length-drop (suc i * 128) fs)
blocks_behind (b ∷ bs) fs (suc i) are = rw (after_first i fs) (blocks_behind bs (drop 128 fs) i are.2)

pub block_behind : (bs : List Block) (fs : List (Filed Deed)) → AreBlocks bs fs → AreBlocks (drop 1 bs) (drop 128 fs)
block_behind [] fs are = omega (arith, are, length-drop 128 fs)
block_behind (b ∷ bs) fs are = are.2

-- ---- the parts round a place

pub drop_min : {A : Type 0} (n : ℕ) (fs : List A) → drop (min n (length fs)) fs ≡ drop n fs
drop_min n fs = grind (arith, drop_all)

pub parts_round : (fs : List (Filed Deed)) (s r : ℕ) → r < 128 → s + r < length fs
    → (let these = take 128 (drop s fs) in take (s + r) fs ++ drop (s + r + 1) fs
    ≡ take s fs ++ (take r these ++ (drop 1 (drop r these) ++ drop 128 (drop s fs))))
parts_round fs s r low within =
    let rest = drop s fs in
    let these = take 128 rest in
    let cut : drop (r + 1) rest ≡ drop 1 (drop r these) ++ drop 128 rest =
    ap (drop (r + 1)) (sym (take-append-drop 128 rest))
    ∙ (drop-append-le (r + 1) these (drop 128 rest) (omega (arith, length-take 128 rest, length-drop s fs))
    ∙ ap (λ l. l ++ drop 128 rest) (sym (drop-drop 1 r these))) in
    let next : s + (r + 1) ≡ s + r + 1 = omega arith in
    let behind : drop (s + r + 1) fs ≡ drop (r + 1) rest = sym (drop-drop (r + 1) s fs ∙ ap (λ j. drop j fs) next) in
    let before : take (s + r) fs ≡ take s fs ++ take r these =
    take-add s r fs ∙ ap (λ l. take s fs ++ l) (sym (take-take r 128 rest (omega arith))) in
    rw (before, behind, cut) (simp append_assoc)

-- ---- the steps of walks

pub deeds_there : (fs : List (Filed Deed)) (i : ℕ) (u : Filed Deed) (d : Deed) → i < length fs → u ≡ get_or fs i u
    → u.kept ≡ Some d → deeds_in (drop i fs) ≡ record { number = u.number; deed = d } ∷ deeds_in (drop (i + 1) fs)
deeds_there fs i u d low here kept =
    let there : drop i fs ≡ u ∷ drop (suc i) fs = drop-cons fs i u low ∙ ap (λ v. v ∷ drop (suc i) fs) (sym here) in
    rw (add-one, there, kept) refl

pub none_there : (fs : List (Filed Deed)) (i : ℕ) (u : Filed Deed) → i < length fs → u ≡ get_or fs i u → u.kept ≡ None
    → deeds_in (drop i fs) ≡ deeds_in (drop (i + 1) fs)
none_there fs i u low here kept =
    let there : drop i fs ≡ u ∷ drop (suc i) fs = drop-cons fs i u low ∙ ap (λ v. v ∷ drop (suc i) fs) (sym here) in
    rw (add-one, there, kept) refl

deeds_cut : (n : ℕ) (fs : List (Filed Deed)) (later : List Dealing)
    → deeds_in fs ++ later ≡ deeds_in (take n fs) ++ (deeds_in (drop n fs) ++ later)
deeds_cut n fs later =
    ap (λ l. deeds_in l ++ later) (sym (take-append-drop n fs))
    ∙ ap (λ l. l ++ later) (deeds-append (take n fs) (drop n fs))
    ∙ append_assoc (deeds_in (take n fs)) (deeds_in (drop n fs)) later

-- the block at a place is the first of those from there on
pub blocks_at : (bs : List Block) (i : ℕ) (u : Block) (fs : List (Filed Deed)) → i < length bs
    → AreBlocks (drop i bs) fs → (128 ≤ length fs) × (get_or bs i u ≡ block_of (deeds_in (take 128 fs)))
    × AreBlocks (drop (i + 1) bs) (drop 128 fs)
blocks_at bs i u fs low are = rw add-one (rw (drop-cons bs i u low) at are)

pub step_block : (b : Block) (fs : List (Filed Deed)) (room : ℕ) → b ≡ block_of (deeds_in (take 128 fs)) → b.need ≤ room
    → (later : List Dealing) → first_over room 0 (deeds_in fs ++ later)
    ≡ first_over (room - b.need + b.left) 0 (deeds_in (drop 128 fs) ++ later)
step_block b fs room is fits later =
    ap (first_over room 0) (deeds_cut 128 fs later)
    ∙ rw is (step_over (deeds_in (take 128 fs)) room (deeds_in (drop 128 fs) ++ later) (rw is at fits))

pub step_walk : (fs : List (Filed Deed)) (room : ℕ) (r : Result ℕ ℕ)
    → ((later : List Dealing) → first_over room 0 (deeds_in (take 128 fs) ++ later) ≡ goes_on r later)
    → (later : List Dealing) → first_over room 0 (deeds_in fs ++ later) ≡ goes_on r (deeds_in (drop 128 fs) ++ later)
step_walk fs room r goes later =
    ap (first_over room 0) (deeds_cut 128 fs later) ∙ goes (deeds_in (drop 128 fs) ++ later)

-- a walk past a deed that there is room for
pub walk_step : (fs : List (Filed Deed)) (i : ℕ) (u : Filed Deed) (d : Deed) (room next : ℕ) → i < length fs
    → u ≡ get_or fs i u → u.kept ≡ Some d → used_by_deed d ≤ room + raised_by_deed d
    → next ≡ room + raised_by_deed d - used_by_deed d → record {
      goes : (later : List Dealing) → first_over room 0 (deeds_in (drop i fs) ++ later)
          ≡ first_over next 0 (deeds_in (drop (i + 1) fs) ++ later);
      fits : next + raised_under (deeds_in (drop (i + 1) fs)) ≤ room + raised_under (deeds_in (drop i fs));
    }
walk_step fs i u d room next low here kept within is =
    let there = deeds_there fs i u d low here kept in
    let rest = deeds_in (drop (i + 1) fs) in
    let one : Dealing = record { number = u.number; deed = d } in
    let more : raised_under (deeds_in (drop i fs)) ≡ raised_by_deed d + raised_under rest =
    ap raised_under there ∙ sum_by-cons (λ (x : Dealing). raised_by_deed x.deed) one rest in
    record {
      goes = λ later. ap (λ l. first_over room 0 (l ++ later)) there
          ∙ (goes room one (rest ++ later) within ∙ ap (λ r. first_over r 0 (rest ++ later)) (sym is));
      fits = omega arith;
    }

-- ---- walks without a place

-- what is dealt but for the deed of a place: before its block, in it before and behind the place, and behind the block
pub deeds_round : (fs : List (Filed Deed)) (p s r : ℕ) {before rest these first others last behind : List (Filed Deed)}
    → before ≡ take s fs → rest ≡ drop s fs → these ≡ take 128 rest → behind ≡ drop 128 rest → first ≡ take r these
    → others ≡ drop r these → last ≡ drop 1 others → p ≡ s + r → r < 128 → p < length fs → (later : List Dealing)
    → deeds_in (take p fs ++ drop (p + 1) fs) ++ later
    ≡ deeds_in before ++ (deeds_in first ++ (deeds_in last ++ (deeds_in behind ++ later)))
deeds_round fs p s r {before} {rest} {these} {first} {others} {last} {behind} is_before is_rest is_these is_behind
    is_first is_others is_last there low within later =
    let parts : take p fs ++ drop (p + 1) fs ≡ before ++ (first ++ (last ++ behind)) =
    rw (there, is_before, is_first, is_last, is_others, is_these, is_behind, is_rest)
    (parts_round fs s r low (omega arith)) in
    ap (λ l. deeds_in l ++ later) parts
    ∙ (ap (λ l. l ++ later) (deeds-append before (first ++ (last ++ behind))
    ∙ ap (λ l. deeds_in before ++ l) (deeds-append first (last ++ behind)
    ∙ ap (λ l. deeds_in first ++ l) (deeds-append last behind)))
    ∙ simp append_assoc)

pub raised_round : (fs : List (Filed Deed)) (s r : ℕ) {before rest these first others last behind : List (Filed Deed)}
    → before ≡ take s fs → rest ≡ drop s fs → these ≡ take 128 rest → behind ≡ drop 128 rest → first ≡ take r these
    → others ≡ drop r these → last ≡ drop 1 others
    → raised_under (deeds_in before) + raised_under (deeds_in first) + raised_under (deeds_in last)
    + raised_under (deeds_in behind) ≤ raised_under (deeds_in fs)
raised_round fs s r {before} {rest} {these} {first} {others} {last} {behind} is_before is_rest is_these is_behind
    is_first is_others is_last =
    let whole = counted_parts raised_by_deed s fs in
    let right = counted_parts raised_by_deed 128 rest in
    let block = counted_parts raised_by_deed r these in
    let others_parts = counted_parts raised_by_deed 1 others in
    omega (
      arith,
      whole,
      right,
      block,
      others_parts,
      ap (counted raised_by_deed) is_before,
      ap (counted raised_by_deed) is_rest,
      ap (counted raised_by_deed) is_these,
      ap (counted raised_by_deed) is_behind,
      ap (counted raised_by_deed) is_first,
      ap (counted raised_by_deed) is_others,
      ap (counted raised_by_deed) is_last,
    )
