-- Text that comes by way of a buffer and a writer, piece by piece along a list.
use Rattle.std.proofs.Common.{◌≡◌, ℕ, zero, suc, ◌+◌, ◌<◌, ◌≤◌, List, [], ◌∷◌, ◌++◌, refl, sym, ◌∙◌}
use Rattle.std.proofs.Common.{ap, arith, inl, inr, Option}
use Rattle.std.proofs.Common.{length, take, append_assoc, append-nil}
use Rattle.std.specs.Prelude.{flat_map, Some, None, slice_get}
use Rattle.std.proofs.lemmas.Option.{slice_get_cases}
use Rattle.std.specs.Io.KnownBytes.{Appends}
use Rattle.std.proofs.KnownBytes.{Appends-nil, Appends-trans}
use Rattle.gu_statement.specs.Kinds.{of_some}
use Rattle.gu_statement.specs.Writing.{Comes}

-- nothing came
pub none : (o : Option (List ℕ)) (h : List ℕ) → Comes o h o h []
none o h = record { out = []; written = Appends-nil o; whole = sym (append-nil h) }

-- one text and then another
pub then : (o n m : Option (List ℕ)) (h l k s t : List ℕ) → Comes o h n l s → Comes n l m k t → Comes o h m k (s ++ t)
then o n m h l k s t p q = record {
  out = p.out ++ q.out;
  written = Appends-trans o n m p.out q.out p.written q.written;
  whole =
      append_assoc p.out q.out k
      ∙ (ap (λ x. p.out ++ x) q.whole
      ∙ (sym (append_assoc p.out l t) ∙ (ap (λ x. x ++ t) p.whole ∙ append_assoc h s t)));
}

-- a line that was made, and then whatever was written
pub lined : (o n : Option (List ℕ)) (h made l s : List ℕ) → made ≡ h ++ s → Comes o made n l [] → Comes o h n l s
lined o n h made l s is p =
    record { out = p.out; written = p.written; whole = p.whole ∙ (append-nil made ∙ is) }

-- the same text under another name
pub same : (o n : Option (List ℕ)) (h l s t : List ℕ) → s ≡ t → Comes o h n l s → Comes o h n l t
same o n h l s t is p = record { out = p.out; written = p.written; whole = p.whole ∙ ap (λ x. h ++ x) is }

-- one element more
pub taken : {A : Type 0} (f : A → List ℕ) (xs : List A) (i : ℕ) (x : A) → slice_get xs i ≡ Some x
    → flat_map f (take i xs) ++ f x ≡ flat_map f (take (i + 1) xs)
taken f [] i x found = absurd (cc)
taken f (y ∷ xs) zero x found = let here : y ≡ x = cc in ap f (sym here) ∙ sym (append-nil (f y))
taken f (y ∷ xs) (suc i) x found =
    append_assoc (f y) (flat_map f (take i xs)) (f x)
    ∙ (ap (λ t. f y ++ t) (taken f xs i x found) ∙ ap (λ m. flat_map f (take m (y ∷ xs))) (more i))
  where
    more : (i : ℕ) → suc (i + 1) ≡ suc i + 1
    more i = omega arith

-- before the end an element stands
pub is_there : {A : Type 0} (xs : List A) (i : ℕ) → i < length xs → slice_get xs i ≡ None → ⊥
is_there [] i within absent = omega arith
is_there (x ∷ xs) zero within absent = cc
is_there (x ∷ xs) (suc i) within absent = is_there xs i (omega arith) absent

-- the same behind a first element
pub taken_behind : {A : Type 0} (f : A → List ℕ) (first : A) (xs : List A) (i : ℕ) (x : A) → slice_get xs i ≡ Some x
    → flat_map f (first ∷ take i xs) ++ f x ≡ flat_map f (first ∷ take (i + 1) xs)
taken_behind f first xs i x found =
    append_assoc (f first) (flat_map f (take i xs)) (f x) ∙ ap (λ t. f first ++ t) (taken f xs i x found)

-- one element more, which stands at the place
pub taken_at : {A : Type 0} (f : A → List ℕ) (xs : List A) (i : ℕ) → i < length xs
    → flat_map f (take i xs) ++ of_some f (slice_get xs i) ≡ flat_map f (take (i + 1) xs)
taken_at f xs i within = elim (slice_get_cases xs i).1 [
  | inl q ↦ ap (λ o. flat_map f (take i xs) ++ of_some f o) q.2 ∙ taken f xs i q.0 q.2
  | inr q ↦ absurd (omega (arith, within, q.0))
]

-- a list goes on by what stands at the place
pub more_at : {A : Type 0} (f : A → List ℕ) (xs : List A) (i : ℕ) (o n m : Option (List ℕ)) (h l k :
    List ℕ) → i < length xs
    → Comes o h n l (flat_map f (take i xs)) → Comes n l m k (of_some f (slice_get xs i))
    → Comes o h m k (flat_map f (take (i + 1) xs))
more_at f xs i o n m h l k within p q = same o m h k _ _ (taken_at f xs i within) (then o n m h l k _ _ p q)

-- the same behind a text
pub more_behind : {A : Type 0} (f : A → List ℕ) (xs : List A) (i : ℕ) (o n m : Option (List ℕ)) (h l k
    s : List ℕ) → i < length xs
    → Comes o h n l (s ++ flat_map f (take i xs)) → Comes n l m k (of_some f (slice_get xs i))
    → Comes o h m k (s ++ flat_map f (take (i + 1) xs))
more_behind f xs i o n m h l k s within p q =
    same o m h k _ _
    (append_assoc s (flat_map f (take i xs)) (of_some f (slice_get xs i))
    ∙ ap (λ t. s ++ t) (taken_at f xs i within))
    (then o n m h l k _ _ p q)
