-- Records are found by their numbers.
use Rattle.std.proofs.Common.{◌≡◌, ℕ, zero, suc, ◌+◌, ◌-◌, ◌<◌, ◌≤◌, Bool, true, false, List, [], ◌∷◌, ◌++◌, length}
use Rattle.std.proofs.Common.{get_or, refl, sym, ◌∙◌, ap, arith, cond, Option, inl, inr, ◌⊎◌}
use Rattle.std.specs.Prelude.{Some, None, find, filter, ◌==◌, IsTrue}
use Rattle.gu_base.specs.Numbers.{is_number}
use Rattle.std.proofs.lemmas.Bool.{eqb-true, eq-eqb, ne_eqb}
use Rattle.gu_base.specs.History.{numbered_as, numbered_from, RisesFrom}
use Rattle.gu_base.specs.Answers.{entry_of}
use Rattle.gu_base.specs.declared.entry.Entry.{Entry}
use Rattle.gu_base.specs.declared.entry.Record.{Record}

pub positive : (n : ℕ) → IsTrue (is_number n) → 1 ≤ n
positive n h = grind arith

-- numbers that rise from one on rise from a lower one too
pub rises_later : (n m : ℕ) (l : List Record) → n ≤ m → RisesFrom m l → RisesFrom n l
rises_later n m [] h rises = tt
rises_later n m (r ∷ l) h rises = let a : m ≤ r.number = rises.0 in (omega arith, rises.1)

-- a record may be left out
pub rises_kept : (n : ℕ) (r : Record) (kept : List Record) → n ≤ r.number → RisesFrom (r.number + 1) kept → (b : Bool)
    → RisesFrom n (cond b (r ∷ kept) kept)
rises_kept n r kept h rises true = (h, rises)
rises_kept n r kept h rises false = rises_later n (r.number + 1) kept (omega arith) rises

-- there are as many records as entries
pub length_numbered : (m : ℕ) (h : List Entry) → length (numbered_from m h) ≡ length h
length_numbered m [] = refl
length_numbered m (e ∷ h) = let a = length_numbered (m + 1) h in omega (arith, a)

-- the entry of a number stands at its place
none_past : (m n : ℕ) (h : List Entry) → m + length h ≤ n → find (λ q. q.number == n) (numbered_from m h) ≡ None
none_past m n [] past = refl
none_past m n (e ∷ h) past =
    ap (λ b. cond b (Some (numbered_as m e)) (find (λ q. q.number == n) (numbered_from (m + 1) h)))
    (ne_eqb m n (λ s. omega arith))
    ∙ none_past (m + 1) n h (omega arith)

-- the entry at its place
there : (m n k : ℕ) (h : List Entry) (e : Entry) → n ≡ m + k → k < length h → e ≡ get_or h k e
    → find (λ q. q.number == n) (numbered_from m h) ≡ Some (numbered_as n e)
there m n k [] e same within is = absurd (omega arith)
there m n zero (d ∷ h) e same within is =
    let number : m ≡ n = omega arith in
    ap (λ b. cond b (Some (numbered_as m d)) (find (λ q. q.number == n) (numbered_from (m + 1) h))) (eq-eqb m n number)
    ∙ (ap (λ x. Some (numbered_as m x)) (sym is) ∙ ap (λ x. Some (numbered_as x e)) number)
there m n (suc k) (d ∷ h) e same within is =
    ap (λ b. cond b (Some (numbered_as m d)) (find (λ q. q.number == n) (numbered_from (m + 1) h)))
    (ne_eqb m n (λ s. omega arith))
    ∙ there (m + 1) n k h e (omega arith) (omega arith) is

pub unknown_entry : (h : List Entry) (n : ℕ) → 1 ≤ n → length h ≤ n - 1 → entry_of h n ≡ None
unknown_entry h n positive past = none_past 1 n h (omega arith)

pub known_entry : (h : List Entry) (n : ℕ) (e : Entry) → 1 ≤ n → n - 1 < length h → e ≡ get_or h (n - 1) e
    → entry_of h n ≡ Some (numbered_as n e)
known_entry h n e positive within is = there 1 n (n - 1) h e (omega arith) within is

found_here : (b : Bool) (x r : Record) (rest : Option Record) → cond b (Some x) rest ≡ Some r
    → ((b ≡ true) × (x ≡ r)) ⊎ ((b ≡ false) × (rest ≡ Some r))
found_here true x r rest h = inl (refl, cc)
found_here false x r rest h = inr (refl, h)

-- the record of a number
pub record IsAt (k m : ℕ) (h : List Entry) (r : Record) : Type 0 where
  pub from : m ≤ k
  pub within : k < m + length h
  pub number : r.number ≡ k

pub found_at : (k m : ℕ) (h : List Entry) (r : Record) → find (λ q. q.number == k) (numbered_from m h) ≡ Some r
    → IsAt k m h r
found_at k m [] r e = absurd (cc)
found_at k m (d ∷ h) r e =
    elim (found_here (m == k) (numbered_as m d) r (find (λ q. q.number == k) (numbered_from (m + 1) h)) e) [
      | inl p ↦
          let same : m ≡ k = eqb-true m k p.0 in
          let is : m ≡ r.number = ap (λ (q : Record). q.number) p.1 in
          record { from = omega arith; within = omega arith; number = omega arith }
      | inr p ↦
          let later = found_at k (m + 1) h r p.1 in
          let a : m + 1 ≤ k = later.from in
          let b : k < m + 1 + length h = later.within in
          record { from = omega arith; within = omega arith; number = later.number }
    ]

pub record IsListed (p : Record → Bool) (rs : List Record) (r : Record) : Type 0 where
  pub found : find (λ q. q.number == r.number) rs ≡ Some r
  pub passes : p r ≡ true

nothing_in : (before after : List Record) (r : Record) → [] ≡ before ++ r ∷ after → ⊥
nothing_in [] after r e = cc
nothing_in (b ∷ before) after r e = cc

listed_step : (p : Record → Bool) (m : ℕ) (d : Entry) (h : List Entry) (r : Record) (b : Bool) → p (numbered_as m d) ≡ b
    → ((before after : List Record) → filter p (numbered_from (m + 1) h) ≡ before ++ r ∷ after
    → IsListed p (numbered_from (m + 1) h) r)
    → (before after : List Record)
    → cond b (numbered_as m d ∷ filter p (numbered_from (m + 1) h)) (filter p (numbered_from (m + 1) h))
    ≡ before ++ r ∷ after
    → IsListed p (numbered_from m (d ∷ h)) r
listed_step p m d h r false test rest before after e =
    let later = rest before after e in
    let at = found_at r.number (m + 1) h r later.found in
    let behind : m + 1 ≤ r.number = at.from in
    record {
      found =
          ap (λ b. cond b (Some (numbered_as m d)) (find (λ q. q.number == r.number) (numbered_from (m + 1) h)))
          (ne_eqb m r.number (λ e. omega arith))
          ∙ later.found;
      passes = later.passes;
    }
listed_step p m d h r true test rest [] after e =
    let same : numbered_as m d ≡ r = cc in
    let number : m ≡ r.number = ap (λ (q : Record). q.number) same in
    record {
      found =
          ap (λ b. cond b (Some (numbered_as m d)) (find (λ q. q.number == r.number) (numbered_from (m + 1) h)))
          (eq-eqb m r.number number)
          ∙ ap Some same;
      passes = sym (ap p same) ∙ test;
    }
listed_step p m d h r true test rest (b ∷ before) after e =
    let tail : filter p (numbered_from (m + 1) h) ≡ before ++ r ∷ after = cc in
    let later = rest before after tail in
    let at = found_at r.number (m + 1) h r later.found in
    let behind : m + 1 ≤ r.number = at.from in
    record {
      found =
          ap (λ b. cond b (Some (numbered_as m d)) (find (λ q. q.number == r.number) (numbered_from (m + 1) h)))
          (ne_eqb m r.number (λ e. omega arith))
          ∙ later.found;
      passes = later.passes;
    }

-- what passes is found by its number
pub listed : (p : Record → Bool) (m : ℕ) (h : List Entry) (r : Record) (before after : List Record)
    → filter p (numbered_from m h) ≡ before ++ r ∷ after → IsListed p (numbered_from m h) r
listed p m [] r before after e = absurd (nothing_in before after r e)
listed p m (d ∷ h) r before after e =
    listed_step p m d h r (p (numbered_as m d)) refl (λ b a same. listed p (m + 1) h r b a same) before after e
