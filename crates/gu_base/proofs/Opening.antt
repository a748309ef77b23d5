-- The agreements of a lawful opening are made one after the other.
use Rattle.std.proofs.Common.{◌≡◌, ℕ, ◌+◌, ◌<◌, ◌≤◌, Bool, true, false, not, ◌&&◌, ◌||◌, ◌^◌, List, [], ◌∷◌, ◌++◌}
use Rattle.std.proofs.Common.{length, refl, sym, ◌∙◌, ap, subst, arith, cond, Option, append_assoc, append-nil}
use Rattle.std.proofs.Common.{length-append}
use Rattle.std.proofs.lemmas.List.{append_cancel_left}
use Rattle.std.specs.Prelude.{Some, None, is_none, find, filter, bytes_eq, codes, decimal, option_map}
use Rattle.std.specs.List.{list_all, list_any, cons_option, AllByRecursion, IsDistinct}
use Rattle.std.specs.Map.{keys_of}
use Rattle.std.specs.Option.{option_or}
use Rattle.std.proofs.lemmas.Bool.{and_parts, lt-ltb}
use Rattle.std.proofs.lemmas.Fmt.{decimal_injective}
use Rattle.std.proofs.lemmas.Slice.Eq.{bytes_eq-Decides}
use Rattle.gu_base.specs.Limits.{most_entries}
use Rattle.gu_base.specs.Numbers.{are_terms}
use Rattle.gu_base.specs.House.{House, knows_firm, agreement, same_pair, can_be_made, HasLawfulOpening}
use Rattle.gu_base.specs.History.{numbered_as, numbered_from, live, is_change, is_reversed}
use Rattle.gu_base.specs.Terms.{dealing_of, dealings, dealings_in, terms_of, terms_under}
use Rattle.gu_base.specs.Refusals.{first, unless}
use Rattle.gu_base.specs.Answers.{answer_to, answer_by, accepted_or, after, after_by, is_same_id, is_same_call}
use Rattle.gu_base.specs.Runs.{after_all, opening_call, opening_from, opening_history}
use Rattle.gu_base.specs.declared.house.Pair.{Pair}
use Rattle.gu_base.specs.declared.house.Agreement.{Agreement}
use Rattle.gu_base.specs.declared.house.Deed.{Deed}
use Rattle.gu_base.specs.declared.house.Deed.TheVariants.{Makes}
use Rattle.gu_base.specs.declared.house.Dealing.{Dealing}
use Rattle.gu_base.specs.declared.entry.Entry.{Entry}
use Rattle.gu_base.specs.declared.entry.Record.{Record}
use Rattle.gu_base.specs.declared.entry.Answer.TheVariants.{Accepted}
use Rattle.gu_base.specs.declared.command.Command.TheVariants.{Agree}
use Rattle.gu_base.specs.declared.state.State.{State}
use Rattle.gu_base.specs.declared.state.State.TheVariants.{Held}
use Rattle.gu_base.specs.declared.refusal.Refusal.{Refusal}
use Rattle.gu_base.specs.declared.refusal.Refusal.TheVariants.{BookFull}
use Rattle.gu_base.proofs.Passing.{agree_accepted, refusal_none}

-- the entry of an opening call
abbrev pub opening_entry : House → ℕ → Pair × Agreement → Entry
opening_entry t i e = record {
  firm = t.house;
  id = codes "OPEN-" ++ decimal i;
  command = Agree e.0.giver e.0.taker e.1.rate e.1.limit;
  status = Held;
}

-- the entries of the opening calls for these agreements, from the i-th on
abbrev pub opened_from : House → ℕ → List (Pair × Agreement) → List Entry
opened_from t i [] = []
opened_from t i (e ∷ es) = opening_entry t i e ∷ opened_from t (i + 1) es

-- one more, and how many they are
opened_push : (t : House) (i : ℕ) (es : List (Pair × Agreement)) (e : Pair × Agreement)
    → opened_from t i (es ++ e ∷ []) ≡ opened_from t i es ++ opening_entry t (i + length es) e ∷ []
opened_push t i [] e = ap (λ j. opening_entry t j e ∷ []) (omega arith)
opened_push t i (d ∷ es) e =
    ap (λ h. opening_entry t i d ∷ h)
    (opened_push t (i + 1) es e ∙ ap (λ j. opened_from t (i + 1) es ++ opening_entry t j e ∷ []) (omega arith))

pub opened_length : (t : House) (i : ℕ) (es : List (Pair × Agreement)) → length (opened_from t i es) ≡ length es
opened_length t i [] = refl
opened_length t i (e ∷ es) = let a = opened_length t (i + 1) es in omega (arith, a)

-- ---- ids of their own

bytes_differ : (xs ys : List ℕ) → (xs ≡ ys → ⊥) → (b : Bool) → bytes_eq xs ys ≡ b → bytes_eq xs ys ≡ false
bytes_differ xs ys differ true e = absurd (differ ((bytes_eq-Decides xs ys).0 e))
bytes_differ xs ys differ false e = e

ids_differ : (i j : ℕ) → i < j → j < 2 ^ 64 → bytes_eq (codes "OPEN-" ++ decimal i) (codes "OPEN-" ++ decimal j) ≡ false
ids_differ i j less small =
    bytes_differ (codes "OPEN-" ++ decimal i) (codes "OPEN-" ++ decimal j)
    (λ e.
    let same : i ≡ j = decimal_injective i j (omega (arith, less, small)) small
    (append_cancel_left (codes "OPEN-") (decimal i) (decimal j) e) in
    absurd (omega (arith, same, less)))
    (bytes_eq (codes "OPEN-" ++ decimal i) (codes "OPEN-" ++ decimal j)) refl

and_false : (a b : Bool) → b ≡ false → (a && b) ≡ false
and_false true b e = e
and_false false b e = refl

false_and : (a b : Bool) → a ≡ false → (a && b) ≡ false
false_and true b e = absurd (cc)
false_and false b e = refl

-- nothing is found among them that is none of them
not_found : (p : Record → Bool) (t : House) (n i : ℕ) (es : List (Pair × Agreement))
    → ((m k : ℕ) (e : Pair × Agreement) → k < i + length es → p (numbered_as m (opening_entry t k e)) ≡ false)
    → find p (numbered_from n (opened_from t i es)) ≡ None
not_found p t n i [] none = refl
not_found p t n i (e ∷ es) none =
    ap (λ b.
    cond b (Some (numbered_as n (opening_entry t i e))) (find p (numbered_from (n + 1) (opened_from t (i + 1) es))))
    (none n i e (omega arith))
    ∙ not_found p t (n + 1) (i + 1) es (λ m k d less. none m k d (omega (arith, less)))

module _ (t : House) (es : List (Pair × Agreement)) (e : Pair × Agreement) (few : length es < most_entries) where
  -- ---- none has the id of the next

  other_id : (m k : ℕ) (d : Pair × Agreement) → k < 1 + length es
      → is_same_id (opening_call t (1 + length es) e) (numbered_as m (opening_entry t k d)) ≡ false
  other_id m k d less =
      and_false (bytes_eq t.house t.house)
      (bytes_eq (codes "OPEN-" ++ decimal k) (codes "OPEN-" ++ decimal (1 + length es)))
      (ids_differ k (1 + length es) less (omega (arith, few)))

  pub no_id : find (is_same_id (opening_call t (1 + length es) e)) (numbered_from 1 (opened_from t 1 es)) ≡ None
  no_id = not_found (is_same_id (opening_call t (1 + length es) e)) t 1 1 es other_id

  pub no_call : find (is_same_call (opening_call t (1 + length es) e)) (numbered_from 1 (opened_from t 1 es)) ≡ None
  no_call =
      not_found (is_same_call (opening_call t (1 + length es) e)) t 1 1 es (λ m k d less.
      false_and (is_same_id (opening_call t (1 + length es) e) (numbered_as m (opening_entry t k d))) _
      (other_id m k d less))

-- ---- terms of their own

abbrev numbered_deed : ℕ → Deed → Dealing
numbered_deed n d = record { number = n; deed = d }

-- another pair has no deed of it
no_deed : (l : List Record) (giver taker : List ℕ) (n : ℕ) (t : House) (i : ℕ) (e : Pair × Agreement)
    → same_pair e.0 (record { giver = giver; taker = taker }) ≡ false
    → dealing_of l giver taker (numbered_as n (opening_entry t i e)) ≡ None
no_deed l giver taker n t i e other =
    ap (λ b. option_map (numbered_deed n) (cond b (Some (Makes (record { rate = e.1.rate; limit = e.1.limit }))) None))
    other

cut_no_deal : (l : List Record) (giver taker : List ℕ) (r : Record) (rest : List Record) (b : Bool)
    → dealing_of l giver taker r ≡ None → dealings_in l rest giver taker ≡ []
    → dealings_in l (cond b (r ∷ rest) rest) giver taker ≡ []
cut_no_deal l giver taker r rest true none later = ap (λ o. cons_option o (dealings_in l rest giver taker)) none ∙ later
cut_no_deal l giver taker r rest false none later = later

-- so a pair of its own has no dealings
no_deals : (l : List Record) (q : Record → Bool) (giver taker : List ℕ) (n : ℕ) (t : House) (i : ℕ)
    (es : List (Pair × Agreement))
    → AllByRecursion (λ d. same_pair d.0 (record { giver = giver; taker = taker }) ≡ false) es
    → dealings_in l (filter q (numbered_from n (opened_from t i es))) giver taker ≡ []
no_deals l q giver taker n t i [] others = refl
no_deals l q giver taker n t i (e ∷ es) others =
    cut_no_deal l giver taker (numbered_as n (opening_entry t i e))
    (filter q (numbered_from (n + 1) (opened_from t (i + 1) es))) (q (numbered_as n (opening_entry t i e)))
    (no_deed l giver taker n t i e others.0) (no_deals l q giver taker (n + 1) t (i + 1) es others.1)

-- ---- one call after the other

none_told : {A : Type 0} (o : Option A) → is_none o ≡ true → o ≡ None
none_told None e = refl
none_told (Some a) e = absurd (cc)

pub answer_is : (same dup : Option Record) (n : ℕ) (s : State) (room : Bool) (o : Option Refusal) → same ≡ None
    → dup ≡ None → room ≡ true → o ≡ None
    → answer_by same dup (accepted_or n s (first (unless room BookFull ∷ o ∷ []))) ≡ Accepted n s
answer_is same dup n s room o a b c d = rw (a, b, c, d) refl

pub knows_itself : (t : House) → knows_firm t t.house ≡ true
knows_itself t = ap (λ b. b || list_any (bytes_eq t.house) t.firms) ((bytes_eq-Decides t.house t.house).1 refl)

-- the next call is accepted
pub opening_accepted : (t : House) (es : List (Pair × Agreement)) (e : Pair × Agreement) → can_be_made t e ≡ true
    → AllByRecursion (λ d. same_pair d.0 e.0 ≡ false) es → length es < most_entries
    → answer_to t (opened_from t 1 es) (opening_call t (1 + length es) e)
    ≡ Accepted (length (opened_from t 1 es) + 1) Held
opening_accepted t es e can others few =
    let h = opened_from t 1 es in
    let g = knows_firm t e.0.giver in
    let k = knows_firm t e.0.taker in
    let two = not (bytes_eq e.0.giver e.0.taker) in
    let d = and_parts (g && k && two && are_terms e.1.rate e.1.limit) (is_none (agreement t e.0.giver e.0.taker)) can in
    let c = and_parts (g && k && two) (are_terms e.1.rate e.1.limit) d.0 in
    let b = and_parts (g && k) two c.0 in
    let a = and_parts g k b.0 in
    let deals : dealings (live h) e.0.giver e.0.taker ≡ [] =
    no_deals (live h) (λ r. is_change r.command && not (is_reversed h r.number)) e.0.giver e.0.taker 1 t 1 es others in
    let none : is_none (terms_of t (live h) e.0.giver e.0.taker) ≡ true =
    ap (λ ds. is_none (terms_under (agreement t e.0.giver e.0.taker) ds)) deals
    ∙ ap (λ o. is_none (option_or o None)) (none_told (agreement t e.0.giver e.0.taker) d.1) in
    let lawful = refusal_none t (live h) t.house (Agree e.0.giver e.0.taker e.1.rate e.1.limit) (knows_itself t)
    (agree_accepted t (live h) t.house e.0.giver e.0.taker e.1.rate e.1.limit
    (record {
      house = (bytes_eq-Decides t.house t.house).1 refl;
      giver_known = a.0;
      taker_known = a.1;
      apart = b.1;
      in_range = c.1;
    })
    none) in
    let length_is = opened_length t 1 es in
    answer_is _ _ _ _ _ _ (no_call t es e few) (no_id t es e few)
    (lt-ltb (length h) most_entries (omega (arith, length_is, few))) lawful

-- the agreement behind these can be made, and is none of them
lawful_at : (t : House) (es : List (Pair × Agreement)) (e : Pair × Agreement) (rest : List (Pair × Agreement))
    → list_all (can_be_made t) (es ++ e ∷ rest) ≡ true → can_be_made t e ≡ true
lawful_at t [] e rest all = (and_parts (can_be_made t e) (list_all (can_be_made t) rest) all).0
lawful_at t (d ∷ es) e rest all =
    lawful_at t es e rest (and_parts (can_be_made t d) (list_all (can_be_made t) (es ++ e ∷ rest)) all).1

apart_at : (P : Pair → Type 0) (es : List (Pair × Agreement)) (e : Pair × Agreement) (rest : List (Pair × Agreement))
    → AllByRecursion P (keys_of (es ++ e ∷ rest)) → P e.0
apart_at P [] e rest all = all.0
apart_at P (d ∷ es) e rest all = apart_at P es e rest all.1

others_at : (es : List (Pair × Agreement)) (e : Pair × Agreement) (rest : List (Pair × Agreement))
    → IsDistinct same_pair (keys_of (es ++ e ∷ rest)) → AllByRecursion (λ d. same_pair d.0 e.0 ≡ false) es
unfolding IsDistinct
others_at [] e rest distinct = tt
others_at (d ∷ es) e rest distinct =
    (apart_at (λ p. same_pair d.0 p ≡ false) es e rest distinct.0, others_at es e rest distinct.1)

module _ (t : House) (lawful : HasLawfulOpening t) (few : length t.opening ≤ most_entries) where
  -- ---- all of them

  opened_along : (es rest : List (Pair × Agreement)) → t.opening ≡ es ++ rest
      → after_all t (opened_from t 1 es) (opening_from t (1 + length es) rest) ≡ opened_from t 1 (es ++ rest)
  opened_along es [] is = ap (opened_from t 1) (sym (append-nil es))
  opened_along es (e ∷ rest) is =
      let c = opening_call t (1 + length es) e in
      let behind = length-append es (e ∷ rest) in
      let whole : length t.opening ≡ length (es ++ e ∷ rest) = ap length is in
      let can = lawful_at t es e rest (sym (ap (list_all (can_be_made t)) is) ∙ lawful.lawful) in
      let others = others_at es e rest (subst (λ z. IsDistinct same_pair (keys_of z)) is lawful.distinct) in
      let ok = opening_accepted t es e can others (omega (arith, behind, whole, few)) in
      let one : after t (opened_from t 1 es) c ≡ opened_from t 1 (es ++ e ∷ []) =
      ap (after_by (opened_from t 1 es) c) ok ∙ sym (opened_push t 1 es e) in
      let count = length-append es (e ∷ []) in
      ap (λ h. after_all t h (opening_from t (1 + length es + 1) rest)) one
      ∙ (ap (λ i. after_all t (opened_from t 1 (es ++ e ∷ [])) (opening_from t i rest)) (omega (arith, count))
      ∙ (opened_along (es ++ e ∷ []) rest (is ∙ sym (append_assoc es (e ∷ []) rest))
      ∙ ap (opened_from t 1) (append_assoc es (e ∷ []) rest)))

  -- each call of a lawful opening is accepted: its history has an entry of each
  pub opening_is : opening_history t ≡ opened_from t 1 t.opening
  opening_is = opened_along [] t.opening refl

  pub opening_length : length (opening_history t) ≡ length t.opening
  opening_length = ap length opening_is ∙ opened_length t 1 t.opening
