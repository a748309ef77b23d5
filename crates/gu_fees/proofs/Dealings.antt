-- What a pair deals, with one entry more and with one less.
use Rattle.gu_base.specs
use Rattle.gu_fees.specs.Pairs
use Rattle.std
use Pairs.{dealings_of, deed_at, HasLowLimit, HasRoomFor, HasRoomOn, IsKept, IsSmall, standing_under}
use Rattle.{gu_base.proofs.Basics.or_none, gu_sums.specs.Filing.without}
use specs.Dealt.{first_under_deed, leave_out}
use specs.declared.house.{Agreement.Agreement, Dealing.Dealing, Deed.{Deed, TheVariants.{Makes, Raises, Uses}}}
use specs.Limits.{highest_limit}
use specs.Terms.{made_by_deed, made_in, raised_by_deed, raised_under, terms_under, used_by_deed, used_under}
use std.proofs.Common.{ap, arith, Bool, cond, false, inl}
use std.proofs.Common.{inr, List, not, Option, refl, sym, true, [], ℕ, ◌++◌, ◌+◌, ◌-◌, ◌<◌, ◌^◌, ◌∙◌, ◌∷◌, ◌≡◌, ◌≤◌}
use std.proofs.lemmas.{Bool.cases_Bool, List.{Elements.{All-filter, All-head, All-push, All-tail}, map-append}}
use std.proofs.lemmas.{List.Sums.{sum_by-cons, sum_by_push}, Option.same_Some}
use std.specs.{List.All, Map.{lookup, remove_entry}, Option.option_or}
use std.specs.Prelude.{IfSome, IsTrue, None, option_and_then, Some, sum_by, ◌==◌, ◌↔◌}

-- ---- deeds under their numbers

abbrev is : ℕ → ℕ → Bool
is n k = k == n

abbrev dealing : ℕ → Deed → Dealing
dealing n d = record { number = n; deed = d }

pub dealings_with : (l : List (ℕ × Deed)) (n : ℕ) (d : Deed)
    → dealings_of (l ++ (n, d) ∷ []) ≡ dealings_of l ++ dealing n d ∷ []
dealings_with l n d = map-append _ l _

pub dealings_without : (l : List (ℕ × Deed)) (n : ℕ) → dealings_of (without n l) ≡ leave_out n (dealings_of l)
dealings_without [] n = refl
dealings_without (k ∷ l) n =
    elim (cases_Bool (k.0 == n)) [ inl is ↦ cc (dealings_without l n) | inr other ↦ cc (dealings_without l n) ]

-- the deed of a number is what is filed under it
pub deed_kept : (l : List (ℕ × Deed)) (n : ℕ) → deed_at (dealings_of l) n ≡ lookup (is n) l
deed_kept [] n = refl
deed_kept (k ∷ l) n = elim (cases_Bool (k.0 == n)) [ inl is ↦ cc | inr other ↦ cc (deed_kept l n) ]

-- what stands on an entry, by what is filed under its number
pub standing_is : (file : Option Agreement) (l : List (ℕ × Deed)) (n : ℕ) {o : Option Deed} → lookup (is n) l ≡ o
    → standing_under file (dealings_of l) n ≡ option_and_then (first_under_deed file (dealings_of l) n) o
standing_is file l n at = rw (deed_kept l n ∙ at)

-- what holds of a list and of what is left after its first, and stays so behind others, holds where the deed of a
-- number is taken out
by_removal : (P : List (ℕ × Deed) → List (ℕ × Deed) → Type 0) (n : ℕ) (d : Deed)
    → ((k : ℕ × Deed) (l : List (ℕ × Deed)) → k.1 ≡ d → P (k ∷ l) l)
    → ((k : ℕ × Deed) (l m : List (ℕ × Deed)) → P l m → P (k ∷ l) (k ∷ m)) → (l : List (ℕ × Deed))
    → lookup (is n) l ≡ Some d → P l (remove_entry (is n) l)
by_removal P n d here later [] at = cc
by_removal P n d here later (k ∷ l) at = by _ at (by_removal P n d here later l)
  where
    by : (b : Bool) → cond b (Some k.1) (lookup (is n) l) ≡ Some d
        → (lookup (is n) l ≡ Some d → P l (remove_entry (is n) l)) → P (k ∷ l) (cond b l (k ∷ remove_entry (is n) l))
    by true at rest = here k l (same_Some k.1 d at)
    by false at rest = later k l _ (rest at)

abbrev counted : (Deed → ℕ) → List (ℕ × Deed) → ℕ
counted count l = sum_by (λ x. count x.deed) (dealings_of l)

one_more : (count : Deed → ℕ) (k : ℕ × Deed) (l : List (ℕ × Deed)) → counted count (k ∷ l) ≡ count k.1 + counted count l
one_more count k l = sum_by-cons _ (dealing k.0 k.1) (dealings_of l)

pub counted_less : (count : Deed → ℕ) (n : ℕ) (d : Deed) (l : List (ℕ × Deed)) → lookup (is n) l ≡ Some d
    → counted count (remove_entry (is n) l) + count d ≡ counted count l
counted_less count n d = by_removal (λ l m. counted count m + count d ≡ counted count l) n d
    (λ k l same. omega (arith, one_more count k l, ap count same))
    (λ k l m is. omega (arith, is, one_more count k l, one_more count k m))

-- ---- the terms that were made

or_assoc : (o p q : Option Agreement) → option_or o (option_or p q) ≡ option_or (option_or o p) q
or_assoc None p q = refl
or_assoc (Some a) p q = refl

-- by one deed more
pub made_with : (ds : List Dealing) (n : ℕ) (d : Deed)
    → made_in (ds ++ dealing n d ∷ []) ≡ option_or (made_in ds) (made_by_deed d)
made_with [] n d = or_none _
made_with (x ∷ ds) n d = cc (made_with ds n d, or_assoc _ _ _)

-- ---- limits

low_made_by : (d : Deed) (rest : Option Agreement) (a : Agreement) → HasLowLimit d
    → (rest ≡ Some a → a.limit ≤ highest_limit) → option_or (made_by_deed d) rest ≡ Some a → a.limit ≤ highest_limit
low_made_by (Makes b) rest a low later is = rw (← same_Some b a is) low
low_made_by (Raises _) rest a low later is = later is
low_made_by (Uses _) rest a low later is = later is

low_made : (ds : List Dealing) (a : Agreement) → All (λ d. HasLowLimit d.deed) ds → made_in ds ≡ Some a
    → a.limit ≤ highest_limit
low_made [] a low is = cc
low_made (d ∷ ds) a low is =
    low_made_by _ _ a (All-head (λ d. HasLowLimit d.deed) d ds low)
    (low_made ds a (All-tail (λ d. HasLowLimit d.deed) d ds low)) is

low_either : (file made : Option Agreement) (a : Agreement) → IfSome file (λ a. a.limit ≤ highest_limit)
    → (made ≡ Some a → a.limit ≤ highest_limit) → option_or file made ≡ Some a → a.limit ≤ highest_limit
low_either None made a low later is = later is
low_either (Some b) made a low later is = rw (← same_Some b a is) low

pub low_terms : (file : Option Agreement) (ds : List Dealing) (a : Agreement) → IsSmall file ds
    → terms_under file ds ≡ Some a → a.limit ≤ highest_limit
low_terms file ds a small is = low_either _ _ a small.file_low (low_made ds a small.made_low) is

-- what is small stays so with a deed that it has room for
small_with : (file : Option Agreement) (ds : List Dealing) (n : ℕ) (d : Deed) → IsSmall file ds → HasRoomFor ds d
    → IsSmall file (ds ++ dealing n d ∷ [])
small_with file ds n d small room =
    let raised = sum_by_push (λ x. raised_by_deed x.deed) ds (dealing n d) in
    let used = sum_by_push (λ (x : Dealing). used_by_deed x.deed) ds (dealing n d) in
    let fits = fits_by d room in
    record {
      file_low = small.file_low;
      made_low = All-push (λ (x : Dealing). HasLowLimit x.deed) ds (dealing n d) small.made_low fits.2;
      raised = omega (arith, raised, fits.0);
      used = omega (arith, used, fits.1);
    }
  where
    fits_by : (d : Deed) → HasRoomFor ds d → (highest_limit + raised_under ds + raised_by_deed d < 2 ^ 64)
        × (used_under ds + used_by_deed d < 2 ^ 64) × HasLowLimit d
    fits_by (Makes a) room = (omega (arith, small.raised), omega (arith, small.used), room)
    fits_by (Raises lots) room = (room, omega (arith, small.used), tt)
    fits_by (Uses lots) room = (omega (arith, small.raised), room, tt)

pub room_raised : (raised used : ℕ) (d : Deed) → highest_limit + raised < 2 ^ 64 → HasRoomOn raised used d
    → raised + raised_by_deed d < 2 ^ 64
room_raised raised used (Makes a) small room = omega arith
room_raised raised used (Raises _) small room = omega arith
room_raised raised used (Uses _) small room = omega arith

pub room_used : (raised used : ℕ) (d : Deed) → used < 2 ^ 64 → HasRoomOn raised used d → used + used_by_deed d < 2 ^ 64
room_used raised used (Makes a) small room = omega arith
room_used raised used (Raises _) small room = omega arith
room_used raised used (Uses _) small room = omega arith

-- ---- what is kept of a pair

module _ {file made : Option Agreement} (l : List (ℕ × Deed)) {raised used : ℕ}
    (kept : IsKept file made (dealings_of l) raised used) (n : ℕ) (d : Deed) where
  -- with one more
  pub kept_more : HasRoomFor (dealings_of l) d
      → IsKept file (option_or made (made_by_deed d)) (dealings_of l ++ dealing n d ∷ [])
      (raised + raised_by_deed d) (used + used_by_deed d)
  kept_more room = record {
    made_is = ap (λ o. option_or o (made_by_deed d)) kept.made_is ∙ sym (made_with (dealings_of l) n d);
    raised_is = omega (
      arith,
      sum_by_push (λ (x : Dealing). raised_by_deed x.deed) (dealings_of l) (dealing n d),
    );
    used_is = omega (
      arith,
      sum_by_push (λ (x : Dealing). used_by_deed x.deed) (dealings_of l) (dealing n d),
    );
    small = small_with _ _ n d kept.small room;
  }

  pub kept_counts : lookup (is n) l ≡ Some d → (raised_by_deed d ≤ raised) × (used_by_deed d ≤ used)
  kept_counts at = (
    omega (arith, kept.raised_is, counted_less raised_by_deed n d l at),
    omega (arith, counted_less used_by_deed n d l at),
  )

  -- without one
  pub kept_less : lookup (is n) l ≡ Some d → {m : List (ℕ × Deed)} → m ≡ without n l → m ≡ remove_entry (is n) l
      → {left : Option Agreement} → left ≡ made_in (dealings_of m)
      → IsKept file left (dealings_of m) (raised - raised_by_deed d) (used - used_by_deed d)
  kept_less at {m} out removed left_is =
      let raised_less = counted_less raised_by_deed n d l at in
      let used_less = counted_less used_by_deed n d l at in
      record {
        made_is = left_is;
        raised_is = rw removed (omega (arith, raised_less));
        used_is = rw removed (omega (arith, used_less));
        small = record {
          file_low = kept.small.file_low;
          made_low = rw (out, dealings_without l n) (All-filter (λ x. not (x.number == n))
              (λ x. HasLowLimit x.deed) _ kept.small.made_low);
          raised = rw removed (omega (arith, raised_less));
          used = rw removed (omega (arith, used_less));
        };
      }

  -- the terms that were made stay where one that made none is taken out
  pub made_stays : lookup (is n) l ≡ Some d → {m : List (ℕ × Deed)} → m ≡ remove_entry (is n) l → made_by_deed d ≡ None
      → made ≡ made_in (dealings_of m)
  made_stays at removed none =
      let less = by_removal (λ l m. made_in (dealings_of l) ≡ made_in (dealings_of m)) n d
      (λ k l same. rw (same, none)) (λ k l m is. rw is) l at in rw removed (cc less)

-- whether an entry may be put behind the others
pub can_by : (room above : Type 0) (b : Bool) (raised used r u : ℕ) (d : Deed) → raised ≡ r → used ≡ u → room → above
    → (IsTrue b ↔ HasRoomOn raised used d) → IsTrue b ↔ (room × above × HasRoomOn r u d)
can_by room above b raised used r u d same_raised same_used has_room is_above told = (
  (λ h. (has_room, is_above, rw (← same_raised, ← same_used) (told.0 h))),
  (λ h. told.1 (rw (same_raised, same_used) h.2)),
)
