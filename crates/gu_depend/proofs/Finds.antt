-- What is found in a list where at most one element passes, in whatever order the list stands; lists cut at an element,
-- and without those that pass.
use Rattle.gu_depend.proofs.Vocabulary
use Rattle.std.proofs.lemmas.List
use List.{Elements.filter-append, Sorted.{Contains-permutation, IsPermutation-middle}}
use List.{Sorted.{IsPermutation-sym, IsPermutation-to_front, IsPermutation-trans}, Sums.sum_by-le-sum_by}
use Rattle.std.proofs.{Common.{drop, take}, Math.Seq.split_at}
use Vocabulary.{All, All-cons, All-contains_itself, All-nil}
use Vocabulary.{All-weaker, ap, arith, Bool, cases_Bool, cond, cond_both, Contains, Contains-append_right, count_by}
use Vocabulary.{false, filter, find, find-append, find_passes, found_in, inl, inr, is_some, IsPermutation, IsSomeAnd}
use Vocabulary.{List, no_some, None, none_or_some, not, nothing_here, Option, option_and_then, refl, Some, suc}
use Vocabulary.{sum_by-append, sum_by-cons, sum_by-IsPermutation, sym, true, zero, [], ◌++◌, ◌+◌, ◌∙◌, ◌∷◌, ◌≡◌, ◌≤◌}

pub not_both : (b : Bool) → b ≡ true → b ≡ false → ⊥
not_both b h e = cc

pub some_with : {X : Type 0} (P : X → Type 0) (o : Option X) → IsSomeAnd o P → (x : X) × ((o ≡ Some x) × P x)
some_with P None h = absurd h
some_with P (Some x) h = (x, (refl, h))

pub and_then_told : {X Y : Type 0} (f : X → Option Y) (o : Option X) (y : Y) → option_and_then f o ≡ Some y
    → (x : X) × ((o ≡ Some x) × (f x ≡ Some y))
and_then_told f None y h = cc
and_then_told f (Some x) y h = (x, (refl, h))

-- one look-up behind another
pub and_then_steps : {X Y Z : Type 0} (g : X → Option Y) (f : Y → Option Z) (o : Option X)
    → option_and_then f (option_and_then g o) ≡ option_and_then (λ x. option_and_then f (g x)) o
and_then_steps g f None = refl
and_then_steps g f (Some x) = refl

pub alike_at : {X Y : Type 0} (f h : X → Option Y) (o : Option X) → ((x : X) → o ≡ Some x → f x ≡ h x)
    → option_and_then f o ≡ option_and_then h o
alike_at f h None same = refl
alike_at f h (Some x) same = same x refl

pub some_there : {X : Type 0} (o : Option X) → is_some o ≡ true → (x : X) × (o ≡ Some x)
some_there None h = cc
some_there (Some x) h = (x, refl)

-- where each that passes one test passes another, no more pass the one
pub counts_less : {X : Type 0} (p q : X → Bool) (xs : List X) → ((x : X) → p x ≡ true → q x ≡ true)
    → count_by p xs ≤ count_by q xs
counts_less p q xs more =
    sum_by-le-sum_by _ _ xs (λ x.
    cond_both _ 1 0 (λ n. n ≤ cond (q x) 1 0) (λ is. rw (more x is) (omega arith)) (λ _. omega arith))

-- what each element has, all have
pub all_in : {X : Type 0} (P : X → Type 0) (xs : List X) → ((x : X) → Contains xs x → P x) → All P xs
all_in P xs each = All-weaker (Contains xs) P each xs (All-contains_itself xs)

-- an element, with what stands before and behind it
pub record Cut {X : Type 0} (xs : List X) (x : X) : Type 0 where
  pub before : List X
  pub behind : List X
  pub is : xs ≡ before ++ x ∷ behind

pub cut_at : {X : Type 0} (xs : List X) (x : X) → Contains xs x → Cut xs x
cut_at xs x among = record {
  before = take among.0 xs;
  behind = drop (suc among.0) xs;
  is = split_at xs _ x among.1 ∙ ap (λ y. take among.0 xs ++ y ∷ drop (suc among.0) xs) among.2;
}

-- what holds of each list cut at an element holds of each that has it
pub by_cut : {X : Type 0} (P : List X → Type 0) (xs : List X) (x : X) → Contains xs x
    → ((ys zs : List X) → P (ys ++ x ∷ zs)) → P xs
by_cut P xs x among each = let c = cut_at xs x among in rw c.is (each _ _)

pub stands_between : {X : Type 0} (xs : List X) (x : X) (ys : List X) → Contains (xs ++ x ∷ ys) x
stands_between xs x ys = Contains-append_right xs _ x (zero, omega arith, refl)

-- what holds where a test passes, and where it fails, holds
pub by_test : {P : Type 0} (b : Bool) → (b ≡ true → P) → (b ≡ false → P) → P
by_test true passes fails = passes refl
by_test false passes fails = fails refl

-- where all that pass are kept, what is found stays, and where all are left out, none is found
pub find_filter : {X : Type 0} (p q : X → Bool) (b : Bool) (xs : List X) → ((x : X) → p x ≡ true → q x ≡ b)
    → find p (filter q xs) ≡ cond b (find p xs) None
find_filter p q true [] each = refl
find_filter p q false [] each = refl
find_filter p q b (x ∷ xs) each =
    let later = find_filter p q b xs each in
    by_test (p x) (λ is. by_test b (λ kept. cc (each x is)) (λ left. cc (each x is)))
    (λ out. by_test (q x) (λ kept. cc) (λ left. cc))

-- the element moved to the end
pub moved_to_end : {X : Type 0} (xs : List X) (x : X) (ys : List X)
    → IsPermutation (xs ++ x ∷ ys) ((xs ++ ys) ++ x ∷ [])
moved_to_end xs x ys =
    IsPermutation-trans _ _ _ (IsPermutation-middle xs x ys) (IsPermutation-sym _ _ (IsPermutation-to_front _ x))

-- ---- what passes a test

module _ {X : Type 0} (p : X → Bool) where
  pub count_cons : (x : X) (xs : List X) → count_by p (x ∷ xs) ≡ cond (p x) 1 0 + count_by p xs
  count_cons x xs = sum_by-cons _ x xs

  count_passing : (x : X) (xs : List X) → p x ≡ true → count_by p (x ∷ xs) ≡ 1 + count_by p xs
  count_passing x xs passes = cc (count_cons x xs)

  pub count_append : (xs ys : List X) → count_by p (xs ++ ys) ≡ count_by p xs + count_by p ys
  count_append xs ys = sum_by-append _ xs ys

  pub count_permuted : (xs ys : List X) → IsPermutation xs ys → count_by p ys ≡ count_by p xs
  count_permuted xs ys same = sum_by-IsPermutation _ xs ys same

  -- where none is found, none counts
  pub none_counts : (xs : List X) → find p xs ≡ None → count_by p xs ≡ 0
  none_counts [] h = refl
  none_counts (x ∷ xs) h =
      let q = nothing_here (p x) x (find p xs) h in cc (count_cons x xs, none_counts xs q.1)

  -- an element that stands in the list and passes counts
  pub counts_in : (xs : List X) (x : X) → Contains xs x → p x ≡ true → 1 ≤ count_by p xs
  counts_in xs x among passes =
      by_cut (λ xs. 1 ≤ count_by p xs) xs x among
      (λ ys zs. omega (arith, count_append ys (x ∷ zs), count_passing x zs passes))

  -- and where none counts, none is found
  pub counts_none : (xs : List X) → count_by p xs ≡ 0 → find p xs ≡ None
  counts_none xs h = no_some _ (λ x e. omega (arith, counts_in xs x (found_in p xs x e) (find_passes p xs x e)))

  -- where at most one passes, and one does that stands behind, none passes before it
  pub none_before : (xs : List X) (y : X) (ys : List X) → count_by p (xs ++ y ∷ ys) ≤ 1 → p y ≡ true → find p xs ≡ None
  none_before xs y ys once passes =
      counts_none xs (omega (arith, count_append xs (y ∷ ys), count_passing y ys passes))

  -- one that passes is found
  pub found_some : (xs : List X) (x : X) → Contains xs x → p x ≡ true → (y : X) × (find p xs ≡ Some y)
  found_some xs x among passes = elim (none_or_some _) [
    | inl none ↦ absurd (omega (arith, none_counts xs none, counts_in xs x among passes))
    | inr some ↦ some
  ]

  -- where none is found, none that stands there passes
  pub none_there : (xs : List X) (x : X) → find p xs ≡ None → Contains xs x → p x ≡ true → ⊥
  none_there xs x none among passes =
      let some = found_some xs x among passes in cc

  -- where at most one passes, one that does is found
  pub found_once : (xs : List X) (x : X) → Contains xs x → p x ≡ true → count_by p xs ≤ 1 → find p xs ≡ Some x
  found_once xs x among passes once =
      by_cut (λ xs. count_by p xs ≤ 1 → find p xs ≡ Some x) xs x among
      (λ ys zs once. cc (find-append p ys _, none_before ys x zs once passes)) once

  -- and it is found in whatever order the list stands
  pub find_permuted : (xs ys : List X) → IsPermutation xs ys → count_by p xs ≤ 1 → find p ys ≡ find p xs
  find_permuted xs ys same once = let b = count_permuted xs ys same in elim (none_or_some _) [
    | inl none ↦ cc (counts_none ys (omega (arith, none_counts xs none)))
    | inr x ↦
        found_once ys x.0 (Contains-permutation xs ys x.0 same (found_in p xs x.0 x.1)) (find_passes p xs x.0 x.1)
        (omega arith)
        ∙ sym x.1
  ]

  -- one that doesn't pass can as well be missing
  pub find_beside : (xs : List X) (y : X) (ys : List X) → p y ≡ false → find p (xs ++ y ∷ ys) ≡ find p (xs ++ ys)
  find_beside xs y ys misses = cc (find-append p xs _, find-append p xs ys)

  -- one more element, that passes only where none has passed
  pub once_push : (xs : List X) (y : X) → count_by p xs ≤ 1 → (p y ≡ true → find p xs ≡ None)
      → count_by p (xs ++ y ∷ []) ≤ 1
  once_push xs y once new =
      let more = count_append xs (y ∷ []) in
      by_test (p y) (λ is. omega (arith, none_counts xs (new is), count_passing y [] is))
      (λ is. let none : count_by p (y ∷ []) ≡ 0 = cc in omega arith)

  -- the first element that passes, before which none does
  pub record FirstCut (xs : List X) (x : X) : Type 0 where
    pub before : List X
    pub behind : List X
    pub is : xs ≡ before ++ x ∷ behind
    pub none : find p before ≡ None

  pub first_cut : (xs : List X) (x : X) → find p xs ≡ Some x → FirstCut xs x
  first_cut [] x h = cc
  first_cut (y ∷ ys) x h = elim (cases_Bool (p y)) [
    | inl is ↦ record { before = []; behind = ys; is = cc; none = refl }
    | inr is ↦ (
        let c = first_cut ys x (cc) in
        record { before = y ∷ c.before; behind = c.behind; is = cc; none = cc })
  ]

  -- where none is found, none passes
  pub none_passes : (xs : List X) → find p xs ≡ None → All (λ z. p z ≡ false) xs
  none_passes [] h = All-nil (λ z. p z ≡ false)
  none_passes (y ∷ ys) h =
      let q = nothing_here _ y _ h in All-cons (λ z. p z ≡ false) y ys q.0 (none_passes ys q.1)

  pub filter_all : (xs : List X) → find p xs ≡ None → filter (λ x. not (p x)) xs ≡ xs
  filter_all [] h = refl
  filter_all (y ∷ ys) h = let q = nothing_here _ y (find p ys) h in cc (filter_all ys q.1)

  -- the one that passes is left out
  pub filter_one : (xs : List X) (x : X) (ys : List X) → p x ≡ true
      → count_by p (xs ++ x ∷ ys) ≤ 1 → filter (λ x. not (p x)) (xs ++ x ∷ ys) ≡ xs ++ ys
  filter_one xs x ys passes once =
      let a = count_append xs (x ∷ ys) in
      let b = count_passing x ys passes in
      cc (
        filter-append (λ x. not (p x)) xs (x ∷ ys),
        filter_all xs (counts_none xs (omega arith)),
        filter_all ys (counts_none ys (omega arith)),
      )
