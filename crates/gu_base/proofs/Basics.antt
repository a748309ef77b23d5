-- Small facts about tests, options and filters.
use Rattle.std.proofs.Common.{◌≡◌, ℕ, Bool, true, false, ◌&&◌, ◌||◌, List, [], ◌∷◌, refl, sym, ap, subst, cond, Option}
use Rattle.std.proofs.Common.{inl, inr, ◌⊎◌}
use Rattle.std.specs.Prelude.{Some, None, filter, bytes_eq, ◌==◌, IsTrue, option_map}
use Rattle.std.specs.Option.{option_or}
use Rattle.std.proofs.lemmas.Bool.Decides.{Decides-eqb, same_from_decides}
use Rattle.std.proofs.lemmas.Slice.Eq.{bytes_eq-Decides}

-- ---- tests and options

pub or_false : (b : Bool) → (b || false) ≡ b
or_false true = refl
or_false false = refl

pub or_none : {A : Type 0} (o : Option A) → option_or o None ≡ o
or_none None = refl
or_none (Some x) = refl

pub none_is_some : {A : Type 0} (o : Option A) (a : A) → o ≡ None → o ≡ Some a → ⊥
none_is_some o a e f = cc

pub no_some : {A : Type 0} (o : Option A) → ((a : A) → o ≡ Some a → ⊥) → o ≡ None
no_some None absent = refl
no_some (Some a) absent = absurd (absent a refl)

pub none_or_some : {A : Type 0} (o : Option A) → (o ≡ None) ⊎ ((a : A) × (o ≡ Some a))
none_or_some None = inl refl
none_or_some (Some a) = inr (a, refl)

pub mapped_none : {A B : Type 0} (f : A → B) (o : Option A) → option_map f o ≡ None → o ≡ None
mapped_none f None h = refl
mapped_none f (Some a) h = absurd (cc)

pub still_true : (old new : Bool) → new ≡ old → IsTrue old → IsTrue new
still_true old new same is = subst (λ b. IsTrue b) (sym same) is

-- what holds of either of two values, each in its case
pub either_way : {A : Type 0} (P : A → Type 0) (b : Bool) (x y : A) → (b ≡ true → P x) → (b ≡ false → P y)
    → P (cond b x y)
either_way P true x y f g = f refl
either_way P false x y f g = g refl

-- a search that finds nothing passes over its first element
pub nothing_here : {A : Type 0} (b : Bool) (x : A) (rest : Option A) → cond b (Some x) rest ≡ None
    → (b ≡ false) × (rest ≡ None)
nothing_here true x rest h = absurd (cc)
nothing_here false x rest h = (refl, h)

-- ---- tests of equality, and filters

pub eqb_symm : (a b : ℕ) → (a == b) ≡ (b == a)
eqb_symm a b =
    same_from_decides (a == b) (b == a) (Decides-eqb a b)
    ((λ h. sym ((Decides-eqb b a).0 h)), (λ e. (Decides-eqb b a).1 (sym e)))

pub bytes_symm : (a b : List ℕ) → bytes_eq a b ≡ bytes_eq b a
bytes_symm a b =
    same_from_decides (bytes_eq a b) (bytes_eq b a) (bytes_eq-Decides a b)
    ((λ h. sym ((bytes_eq-Decides b a).0 h)), (λ e. (bytes_eq-Decides b a).1 (sym e)))

twice_step : {X : Type 0} (p q : X → Bool) (x : X) (ys zs : List X) → ys ≡ filter q zs → (b : Bool)
    → cond (b && q x) (x ∷ ys) ys ≡ filter q (cond b (x ∷ zs) zs)
twice_step p q x ys zs same true = ap (λ rs. cond (q x) (x ∷ rs) rs) same
twice_step p q x ys zs same false = same

-- two tests in one filter
pub filter_twice : {X : Type 0} (p q : X → Bool) (xs : List X) → filter (λ x. p x && q x) xs ≡ filter q (filter p xs)
filter_twice p q [] = refl
filter_twice p q (x ∷ xs) = twice_step p q x (filter (λ x. p x && q x) xs) (filter p xs) (filter_twice p q xs) (p x)
