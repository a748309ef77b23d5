-- Writes of zeros, one behind the other, are one.
use Rattle.gu_store.proofs.Bytes.{torn_behind, torn_twice, torn_wider, written_behind}
use Rattle.gu_store.specs.Zeros.{IsZeroing, zeros}
use Rattle.sqlite_disk.specs.Disk.{Holds, Mixed, Torn}
use Rattle.std.proofs.Common.{ap, append-nil, arith, Bool, get_or, inl, inr, length, length-append, List, subst, suc}
use Rattle.std.proofs.{Common.{sym, zero, [], ℕ, ◌++◌, ◌+◌, ◌-◌, ◌<◌, ◌∙◌, ◌≡◌, ◌≤◌, ◌⊎◌}, lemmas.Bool.cases_lt}
use Rattle.std.proofs.lemmas.List.{drop_all, get_or-replicate, length-replicate, nil_from_length}

pub zeros_len : (n : ℕ) → length (zeros n) ≡ n
zeros_len n = length-replicate {A = ℕ} n 0

pub zero_at : (n i : ℕ) → i < n → get_or (zeros n) i 0 ≡ 0
zero_at n i l = get_or-replicate {A = ℕ} n i 0 0 l

-- ---- of one content of the file and another

pub mixed_torn : (at n : ℕ) (a b : List ℕ) → Mixed at (zeros n) a b → Torn at n a b
mixed_torn at n a b mixed = subst (λ (m : ℕ). Torn at m a b) (zeros_len n) mixed.torn

-- a byte is the old one or zero
abbrev IsOldOrZero : List ℕ → List ℕ → ℕ → Type 0
IsOldOrZero a b k = (get_or b k 0 ≡ get_or a k 0) ⊎ (get_or b k 0 ≡ 0)

-- each is
pub each_of : (at n : ℕ) (a b : List ℕ) → Mixed at (zeros n) a b → (i : ℕ) → i < n → at + i < length a
    → IsOldOrZero a b (at + i)
each_of at n a b mixed i l there = elim (mixed.each i (omega (arith, l, zeros_len n)) there) [
  | inl old ↦ inl old
  | inr new ↦ inr (new ∙ zero_at n i l)
]

from_each : (at n : ℕ) (a b : List ℕ) → Torn at n a b
    → ((i : ℕ) → i < n → at + i < length a → IsOldOrZero a b (at + i)) → Mixed at (zeros n) a b
from_each at n a b torn each = record {
  torn = subst (λ (m : ℕ). Torn at m a b) (sym (zeros_len n)) torn;
  each = λ i l there. let few : i < n = omega (arith, l, zeros_len n) in elim (each i few there) [
    | inl old ↦ inl old
    | inr new ↦ inr (new ∙ sym (zero_at n i few))
  ];
}

mixed_wider : (at n m : ℕ) (a b : List ℕ) → n ≤ m → Mixed at (zeros n) a b → Mixed at (zeros m) a b
mixed_wider at n m a b fewer mixed =
    let torn = mixed_torn at n a b mixed in
    from_each at m a b (torn_wider at n m a b fewer torn) (λ i l there. elim (cases_lt i n) [
      | inl few ↦ each_of at n a b mixed i few there
      | inr past ↦ inl (torn.above (at + i) there (omega (arith, past)))
    ])

mixed_twice : (at n m : ℕ) (a b c : List ℕ) → Mixed at (zeros n) a b → Mixed (at + n) (zeros m) b c
    → Mixed at (zeros (n + m)) a c
mixed_twice at n m a b c one two =
    let first = mixed_torn at n a b one in
    let then = mixed_torn (at + n) m b c two in
    from_each at (n + m) a c (torn_twice at n m a b c first then) (λ i l there.
    let in_b : at + i < length b = omega (arith, there, first.no_shorter) in
    elim (cases_lt i n) [
      | inl few ↦
          let same = then.below (at + i) in_b (omega (arith, few)) in
          elim (each_of at n a b one i few there) [ inl old ↦ inl (same ∙ old) | inr new ↦ inr (same ∙ new) ]
      | inr past ↦
          let place : at + n + (i - n) ≡ at + i = omega (arith, past) in
          let each = each_of (at + n) m b c two (i - n) (omega (arith, l, past)) (omega (arith, in_b, place)) in
          elim (subst (IsOldOrZero b c) place each) [
            | inl old ↦ inl (old ∙ first.above (at + i) there (omega (arith, past)))
            | inr new ↦ inr new
          ]
    ])

-- what is written behind zeros leaves them
pub holds_twice : (at n m : ℕ) (b c : List ℕ) → (0 < n → Holds b at (zeros n)) → Torn (at + n) m b c
    → Holds c (at + n) (zeros m) → Holds c at (zeros (n + m))
holds_twice at n m b c first torn then = record {
  within = omega (arith, then.within, zeros_len m, zeros_len (n + m));
  each = λ i l.
      let few : i < n + m = omega (arith, l, zeros_len (n + m)) in
      let is : get_or c (at + i) 0 ≡ 0 = elim (cases_lt i n) [
        | inl few ↦
            let held = first (omega (arith, few)) in
            torn.below (at + i) (omega (arith, few, held.within, zeros_len n)) (omega (arith, few))
            ∙ held.each i (omega (arith, few, zeros_len n)) ∙ zero_at n i few
        | inr past ↦
            let place : at + n + (i - n) ≡ at + i = omega (arith, past) in
            subst (λ (k : ℕ). get_or c k 0 ≡ 0) place (then.each (i - n) (omega (arith, few, past, zeros_len m))
            ∙ zero_at m (i - n) (omega (arith, few, past)))
      ] in
      is ∙ sym (zero_at (n + m) i few);
}

-- ---- of one disk and another

module _ {D : Type 0} (seen : D → List ℕ) (may_leave : D → List ℕ → Type 0) (is_mixing : D → Bool) where
  abbrev Zeroing : ℕ → ℕ → D → D → Type 0
  Zeroing at n old new = IsZeroing seen may_leave is_mixing at n old new

  pub zeroing_wider : (at n m : ℕ) (a b : D) → n ≤ m → Zeroing at n a b → Zeroing at m a b
  zeroing_wider at n m a b fewer z = record {
    others = torn_wider at n m (seen a) (seen b) fewer z.others;
    crash = λ c left. let from = z.crash c left in (from.0, from.1, torn_wider at n m from.0 c fewer from.2);
    mixed = λ all c left. let from = z.mixed all c left in (from.0, from.1, mixed_wider at n m from.0 c fewer from.2);
  }

  pub zeroing_twice : (at n m : ℕ) (a b c : D) → Zeroing at n a b → Zeroing (at + n) m b c → Zeroing at (n + m) a c
  zeroing_twice at n m a b c one two = record {
    others = torn_twice at n m (seen a) (seen b) (seen c) one.others two.others;
    crash = λ f left. let then = two.crash f left in let from = one.crash then.0 then.1 in
        (from.0, from.1, torn_twice at n m from.0 then.0 f from.2 then.2);
    mixed = λ all f left. let then = two.mixed all f left in let from = one.mixed all then.0 then.1 in
        (from.0, from.1, mixed_twice at n m from.0 then.0 f from.2 then.2);
  }

-- ---- where they stand then

-- all that stood there is zero
pub zeros_behind : (front more file c : List ℕ) (at n : ℕ) → file ≡ front ++ more → at ≡ length front → length more ≤ n
    → Torn at n file c → (0 < n → Holds c at (zeros n))
    → c ≡ front ++ zeros n
zeros_behind front more file c at zero is place fits torn holds =
    let none : more ≡ [] = nil_from_length more (omega (arith, fits)) in
    let whole : file ≡ front ++ [] = is ∙ ap (λ (l : List ℕ). front ++ l) none in
    let long : length file ≡ at = omega (arith, ap length whole, length-append front [], place) in
    torn_behind front [] file c at 0 whole (omega (arith, place)) torn
    ∙ ap (λ (l : List ℕ). front ++ l) (drop_all (length front) c (omega (arith, torn.no_longer, long, place)))
zeros_behind front more file c at (suc n) is place fits torn holds =
    written_behind front more file c (zeros (suc n)) at is place
    (subst (λ (k : ℕ). Torn at k file c) (sym (zeros_len (suc n))) torn) (holds (omega arith))
    ∙ ap (λ (l : List ℕ). front ++ (zeros (suc n) ++ l))
    (drop_all (length (zeros (suc n))) more (omega (arith, fits, zeros_len (suc n))))
    ∙ ap (λ (l : List ℕ). front ++ l) (append-nil (zeros (suc n)))
