-- What holds of a list in which at most one element passes a test.
use Rattle.gu_book.proofs.Vocabulary
use Rattle.gu_base.proofs.Basics.{none_or_some, nothing_here}
use Rattle.{gu_depend.proofs.Finds.{count_cons, counts_none, none_counts}, std.specs.List.{IsDistinct, list_any}}
use Vocabulary.{AllByRecursion, any_found, ap, arith, Bool, cond, count_by, Decides}
use Vocabulary.{false, find, inl, inr, is_some, IsDistinct-head, IsDistinct-tail, List, None, Option, option_and_then}
use Vocabulary.{refl, same_Some, Some, sum_by, sum_by-cons, sym, true, [], ℕ, ◌&&◌, ◌+◌, ◌∙◌, ◌∷◌, ◌≡◌, ◌≤◌}

-- one element more in front, that passes only where none behind it does
pub once_at : {X : Type 0} (p : X → Bool) (xs : List X) (b : Bool) → count_by p xs ≤ 1 → (b ≡ true → find p xs ≡ None)
    → cond b 1 0 + count_by p xs ≤ 1
once_at p xs true once none = omega (arith, none_counts p xs (none refl))
once_at p xs false once none = omega arith

-- ---- a second test

pub none_of_both : {X : Type 0} (p q : X → Bool) (xs : List X) → find p xs ≡ None → find (λ x. p x && q x) xs ≡ None
none_of_both p q [] h = refl
none_of_both p q (x ∷ xs) h =
    let a = nothing_here _ x (find p xs) h in
    cc (none_of_both p q xs a.1)

both_found_at : {X : Type 0} (p q : X → Bool) (x : X) (xs : List X)
    → (count_by p xs ≤ 1 → find (λ x. p x && q x) xs ≡ option_and_then (λ x. cond (q x) (Some x) None) (find p xs))
    → (b : Bool) → cond b 1 0 + count_by p xs ≤ 1
    → cond (b && q x) (Some x) (find (λ x. p x && q x) xs)
    ≡ option_and_then (λ x. cond (q x) (Some x) None) (cond b (Some x) (find p xs))
both_found_at p q x xs rest true once = cc (none_of_both p q xs (counts_none p xs (omega (arith, once))))
both_found_at p q x xs rest false once = rest (omega arith)

-- both are passed by the one that passes the first, where it passes the second
pub both_found : {X : Type 0} (p q : X → Bool) (xs : List X) → count_by p xs ≤ 1
    → find (λ x. p x && q x) xs ≡ option_and_then (λ x. cond (q x) (Some x) None) (find p xs)
both_found p q [] once = refl
both_found p q (x ∷ xs) once =
    let a = count_cons p x xs in both_found_at p q x xs (both_found p q xs) (p x) (omega arith)

abbrev pub asked : {X : Type 0} → (X → Bool) → Option X → Bool
asked q None = false
asked q (Some x) = q x

asked_found : {X : Type 0} (q : X → Bool) (o : Option X)
    → is_some (option_and_then (λ x. cond (q x) (Some x) None) o) ≡ asked q o
asked_found q None = refl
asked_found q (Some x) = kept _
  where
    kept : (b : Bool) → is_some (cond b (Some x) None) ≡ b
    kept true = refl
    kept false = refl

pub one_found : {X : Type 0} (p q : X → Bool) (xs : List X) → count_by p xs ≤ 1
    → is_some (find (λ x. p x && q x) xs) ≡ asked q (find p xs)
one_found p q xs once = cc (both_found p q xs once, asked_found q _)

-- ---- sums

none_sum : {X : Type 0} (w : X → ℕ) (p : X → Bool) (xs : List X) → find p xs ≡ None
    → sum_by (λ x. cond (p x) (w x) 0) xs ≡ 0
none_sum w p [] none = refl
none_sum w p (x ∷ xs) none =
    let q = nothing_here _ x (find p xs) none in omega (
      arith,
      sum_by-cons (λ x. cond (p x) (w x) 0) x xs,
      ap (λ b. cond b (w x) 0) q.0,
      none_sum w p xs q.1,
    )

once_or_later : {X : Type 0} (w : X → ℕ) (p : X → Bool) (y : X) (xs : List X) (x : X)
    → (find p xs ≡ Some x → count_by p xs ≤ 1 → sum_by (λ x. cond (p x) (w x) 0) xs ≡ w x) → (b : Bool)
    → cond b (Some y) (find p xs) ≡ Some x → cond b 1 0 + count_by p xs ≤ 1
    → cond b (w y) 0 + sum_by (λ x. cond (p x) (w x) 0) xs ≡ w x
once_or_later w p y xs x later true found once =
    omega (arith, ap w (same_Some y x found), none_sum w p xs (counts_none p xs (omega arith)))
once_or_later w p y xs x later false found once = omega arith

-- where one at most passes, those that pass sum to what the one that is found counts
pub sum_once : {X : Type 0} (w : X → ℕ) (p : X → Bool) (xs : List X) (x : X) → find p xs ≡ Some x → count_by p xs ≤ 1
    → sum_by (λ x. cond (p x) (w x) 0) xs ≡ w x
sum_once w p [] x found once = absurd (cc)
sum_once w p (y ∷ xs) x found once =
    let a = sum_by-cons (λ x. cond (p x) (w x) 0) y xs in
    let b = count_cons p y xs in
    let c = once_or_later w p y xs x (sum_once w p xs x) (p y) found (omega arith) in
    omega arith

pub sum_found : {X : Type 0} (v : ℕ) (p : X → Bool) (xs : List X) → count_by p xs ≤ 1
    → sum_by (λ x. cond (p x) v 0) xs ≡ cond (is_some (find p xs)) v 0
sum_found v p xs once = elim (none_or_some _) [
  | inl none ↦ cc (none_sum (λ x. v) p xs none, none)
  | inr x ↦ sum_once (λ x. v) p xs x.0 x.1 once ∙ sym (cc)
]

-- ---- keys

find_none : {K : Type 0} (e : K → K → Bool) (q : K) (ks : List K) → AllByRecursion (λ y. e q y ≡ false) ks
    → find (e q) ks ≡ None
find_none e q [] none = refl
find_none e q (k ∷ ks) none = cc (find_none e q ks none.1)

distinct_once : {K : Type 0} (e : K → K → Bool) → ((a b : K) → Decides (e a b) (a ≡ b)) → (q : K) (ks : List K)
    → IsDistinct e ks → count_by (e q) ks ≤ 1
distinct_once e same q [] once = omega arith
distinct_once e same q (k ∷ ks) once =
    omega (
      arith,
      count_cons (e q) k ks,
      once_at (e q) ks (e q k)
          (distinct_once e same q ks (IsDistinct-tail e k ks once))
          (λ is. rw ((same q k).0 is) (find_none e k ks (IsDistinct-head e k ks once))),
    )

-- of distinct keys, one is a given member
pub one_takes : {K : Type 0} (e : K → K → Bool) → ((a b : K) → Decides (e a b) (a ≡ b)) → (q : K) (ks : List K) (v : ℕ)
    → IsDistinct e ks → list_any (e q) ks ≡ true → sum_by (λ k. cond (e q k) v 0) ks ≡ v
one_takes e same q ks v once among =
    let x = any_found _ ks among in sum_once _ _ ks x.0 x.1 (distinct_once e same q ks once)
