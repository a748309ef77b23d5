-- Live changes are found by their numbers, and gone through in the order of their numbers.
use Rattle.gu_book.proofs.Vocabulary
use Rattle.gu_depend.proofs
use proofs.Finds.{by_test, none_before, none_there}
use proofs.{Grown.Maker, Vocabulary.{AlreadyReversed, is_reverse_of, is_reversed, knows_firm}}
use proofs.Vocabulary.{made_of, no_some, none_or_some, NotAChange, number_same, Refusal, RisesFrom, UnknownFirm, unless}
use Rattle.gu_base.proofs.{Basics.mapped_none, Numbered.unknown_entry}
use Rattle.gu_base.specs.declared.refusal.Refusal.TheVariants.{UnknownEntry}
use Rattle.{gu_book.{proofs.Once.both_found, specs.Live.IsRefusedAt}, std.proofs.Common.{add-one, drop-cons}}
use Rattle.std.proofs.{lemmas.{Bool.ne_eqb, Option.slice_get_cases}, Math.Bool.{and-false, and-true}}
use Vocabulary.{ap, arith, Bool, change_of, cond}
use Vocabulary.{cons_option, Contains, Decides-eqb, drop, drop_all, Entry, entry_of, EntryPart, eqb-true, false, filter}
use Vocabulary.{find, find_filter, first, first_none, found_at, found_in, found_once, House, inl, inr, is_change}
use Vocabulary.{is_live, IsLiveAt, known_entry, length, List, live, made_number, maker, Node, node_of, node_of_maker}
use Vocabulary.{None, none_is_some, not, not_reversed, number_once, numbered_as, numbered_from, NumbersOnce, on_change}
use Vocabulary.{open_from_none, Option, option_and_then, option_map, Record, records, refl, reversal_of, rises_distinct}
use Vocabulary.{same_Some, Some, sym, true, without, [], ℕ, ◌&&◌, ◌++◌, ◌+◌, ◌-◌, ◌==◌, ◌∙◌, ◌∷◌, ◌≡◌, ◌≢◌, ◌≤◌}

-- ---- the node of a name is made by the change of its number

pub other_made : (r : Record) (n : EntryPart) → r.number ≢ n.entry → made_of r n ≡ None
other_made r n other = no_some _ (λ x e. other (sym (made_number r n x e)))

-- the change that makes a node has its number
pub its_maker : (l : List Record) (n : EntryPart) (x : Node) (m : Maker l n x) → (m.change.number == n.entry) ≡ true
its_maker l n x m = (Decides-eqb m.change.number n.entry).1 (sym (made_number m.change n x m.makes_it))

-- where no change has the number, there is no node of the name
pub node_none : (l : List Record) (n : EntryPart) → change_of l n.entry ≡ None → node_of l n ≡ None
node_none l n none =
    no_some (node_of l n) (λ x e.
    let m = maker l n x e in
    none_there (λ (d : Record). d.number == n.entry) l m.change none m.among (its_maker l n x m))

-- where no number stands twice, a change is found by its own
pub its_own : (l : List Record) (r : Record) → NumbersOnce l → Contains l r → change_of l r.number ≡ Some r
its_own l r once among =
    found_once (λ (d : Record). d.number == r.number) l r among (number_same r.number) (once r.number)

-- and the last one's is no other's
pub fresh : (l : List Record) (r : Record) → NumbersOnce (l ++ r ∷ []) → change_of l r.number ≡ None
fresh l r once = none_before (λ (d : Record). d.number == r.number) l r [] (once r.number) (number_same r.number)

-- so none of its nodes is there yet
pub not_yet : (l : List Record) (r : Record) → NumbersOnce (l ++ r ∷ []) → (n : EntryPart) → n.entry ≡ r.number
    → node_of l n ≡ None
not_yet l r once n own = node_none l n (ap (change_of l) own ∙ fresh l r once)

-- in a list without the change of one number those of the others are found as before
pub change_left : (k j : ℕ) (l : List Record) → k ≢ j → change_of (without l k) j ≡ change_of l j
change_left k j l other =
    find_filter (λ (d : Record). d.number == j) (λ (d : Record). not (d.number == k)) true l
    (λ d same. ap not (ne_eqb d.number k (λ e. other (sym e ∙ eqb-true d.number j same))))

-- where one has it, the node is that one's
pub node_found : (m : ℕ) (l : List Record) (n : EntryPart) (r : Record) → RisesFrom m l
    → change_of l n.entry ≡ Some r → node_of l n ≡ made_of r n
node_found k l n r rises found =
    let once = number_once l (rises_distinct k l rises) in
    let own : Record → Bool = λ d. d.number == n.entry in
    elim (none_or_some (made_of r n)) [
      | inl none ↦
          no_some (node_of l n) (λ x h.
          let m = maker l n x h in
          let it = same_Some m.change r
          (sym (found_once own l m.change m.among (its_maker l n x m) (once n.entry)) ∙ found) in
          none_is_some (made_of r n) x none (rw it at m.makes_it))
          ∙ sym none
      | inr x ↦ node_of_maker l r n x.0 once (found_in own l r found) x.1 ∙ sym x.1
    ]

-- ---- among those that pass a test

-- what is found among those that pass one test passes both
found_kept : {X : Type 0} (p q : X → Bool) (xs : List X) → find p (filter q xs) ≡ find (λ x. p x && q x) xs
found_kept p q [] = refl
found_kept p q (x ∷ xs) =
    let later = found_kept p q xs in
    by_test (q x) (λ is. cc (is, later, and-true (p x))) (λ out. cc (out, later, and-false (p x)))

-- ---- among the live changes

numbers_rise : (m : ℕ) (h : List Entry) → RisesFrom m (numbered_from m h)
numbers_rise m [] = tt
numbers_rise m (e ∷ h) = (omega arith, numbers_rise (m + 1) h)

pub records_once : (h : List Entry) → NumbersOnce (records h)
records_once h = number_once (records h) (rises_distinct 1 (records h) (numbers_rise 1 h))

-- an entry that has a Reverse is reversed
reversed_found : (n m : ℕ) (h : List Entry) (r : Record)
    → find (λ (q : Record). is_reverse_of n q.command) (numbered_from m h) ≡ Some r → is_reversed h n ≡ true
reversed_found n m [] r e = absurd (cc)
reversed_found n m (d ∷ h) r e =
    by_test (is_reverse_of n d.command) (λ is. cc (is))
    (λ other. cc (other, reversed_found n (m + 1) h r (cc (other, e))))

pub numbered_some : (o : Option Record) (n : ℕ) → option_map (λ (r : Record). r.number) o ≡ Some n
    → (r : Record) × ((o ≡ Some r) × (r.number ≡ n))
numbered_some None n e = absurd (cc)
numbered_some (Some r) n e = (r, (refl, cc))

pub reversed_some : (h : List Entry) (n v : ℕ) → option_map (λ (r : Record). r.number) (reversal_of h n) ≡ Some v
    → is_reversed h n ≡ true
reversed_some h n v named = let q = numbered_some (reversal_of h n) v named in reversed_found n 1 h q.0 q.1.0

-- what names an entry and isn't refused names a live change
pub named_live : (t : House) (h : List Entry) (by : List ℕ) (rest : Record → Option Refusal) (n : ℕ)
    → first (unless (knows_firm t by) UnknownFirm ∷ on_change t h by rest (entry_of h n) ∷ []) ≡ None
    → (r : Record) × IsLiveAt h n r
named_live t h by rest n none =
    let row = on_change t h by rest (entry_of h n) in
    let known = first_none (unless (knows_firm t by) UnknownFirm) (row ∷ []) none in
    let o = open_from_none t h by rest (entry_of h n) (first_none row [] known.1).0 in
    let number = (found_at n 1 h o.0 o.1.found).number in
    (o.0, record { there = o.1.found; number = number; change = o.1.is; unreversed = rw number at o.1.unreversed })

module _ (h : List Entry) (n : ℕ) where
  found_live : change_of (live h) n ≡ option_and_then (λ r. cond (is_live h r) (Some r) None) (entry_of h n)
  found_live =
      let p : Record → Bool = λ d. d.number == n in
      found_kept p (is_live h) (records h) ∙ both_found p (is_live h) (records h) (records_once h n)

  -- it is live
  pub live_found : (r : Record) → IsLiveAt h n r → change_of (live h) n ≡ Some r
  live_found r is = cc (found_live, is.there, is.change, is.number, not_reversed n 1 h is.unreversed)

  -- no entry has the number
  pub unknown : entry_of h n ≡ None → IsRefusedAt h n UnknownEntry
  unknown none = record {
    none = cc (found_live, none);
    refused = λ t by rest. rw none refl;
  }

  module _ (e : Entry) (there : entry_of h n ≡ Some (numbered_as n e)) where
    not_found : (is_change e.command && not (is_reversed h n)) ≡ false → change_of (live h) n ≡ None
    not_found fails = cc (found_live, there, fails)

    -- the entry is no change
    pub no_change : is_change e.command ≡ false → IsRefusedAt h n NotAChange
    no_change is = record {
      none = not_found (cc (is));
      refused = λ t by rest. rw (there, is) refl;
    }

    -- a Reverse names it
    pub named_before : is_change e.command ≡ true → (v : ℕ)
        → option_map (λ (r : Record). r.number) (reversal_of h n) ≡ Some v → IsRefusedAt h n (AlreadyReversed v)
    named_before is v named =
        let q = numbered_some _ v named in
        record {
          none = not_found (cc (is, reversed_found n 1 h q.0 q.1.0));
          refused = λ t by rest. rw (there, is, q.1.0, q.1.1) refl;
        }

    -- no Reverse names the change
    pub still_live : is_change e.command ≡ true
        → option_map (λ (r : Record). r.number) (reversal_of h n) ≡ None → IsLiveAt h n (numbered_as n e)
    still_live is none = record {
      there = there;
      number = refl;
      change = is;
      unreversed = mapped_none _ _ none;
    }

-- ---- one after the other

-- the live changes behind the first i entries
abbrev pub left : List Entry → ℕ → List Record
left h i = filter (is_live h) (numbered_from (i + 1) (drop i h))

-- behind all entries there are none
pub left_none : (h : List Entry) (i : ℕ) → length h ≤ i → left h i ≡ []
left_none h i far = ap (λ es. filter (is_live h) (numbered_from (i + 1) es)) (drop_all i h far)

kept_first : (b : Bool) (r : Record) (rs : List Record) → cond b (r ∷ rs) rs ≡ cons_option (cond b (Some r) None) rs
kept_first true r rs = refl
kept_first false r rs = refl

-- the one of the next number comes first of them, if it is live
pub left_more : (h : List Entry) (i : ℕ) → left h i ≡ cons_option (change_of (live h) (i + 1)) (left h (i + 1))
left_more h i = elim (slice_get_cases h i).1 [
  | inl q ↦ (
      let r = numbered_as (i + 1) q.0 in
      let minus : i + 1 - 1 ≡ i = omega arith in
      let rest : drop i h ≡ q.0 ∷ drop (i + 1) h = cc (drop-cons h i q.0 q.1, q.3, add-one i) in
      let first : left h i ≡ cons_option (cond (is_live h r) (Some r) None) (left h (i + 1)) =
      cc (rest, kept_first (is_live h r) r (left h (i + 1))) in
      let known = known_entry h (i + 1) q.0 (omega arith) (omega (arith, q.1)) (cc (minus, q.3)) in
      cc (first, found_live h (i + 1), known))
  | inr q ↦ cc (
    left_none h i q.0,
    left_none h (i + 1) (omega (arith, q.0)),
    found_live h (i + 1),
    unknown_entry h (i + 1) (omega arith) (omega (arith, q.0)),
  )
]
