-- What a search finds.
use Rattle.std.proofs.Common.{◌≡◌, zero, suc, ◌<◌, Bool, true, false, List, [], ◌∷◌, length, refl, sym, ◌∙◌, ap, arith}
use Rattle.std.proofs.Common.{cond, Contains}
use Rattle.std.specs.Prelude.{Some, find}
use Rattle.std.specs.List.{All}
use Rattle.std.proofs.lemmas.List.Elements.{All-contains}
use Rattle.std.proofs.lemmas.Option.{same_Some}

found_in_at : {X : Type 0} (p : X → Bool) (y : X) (ys : List X) (x : X) → (find p ys ≡ Some x → Contains ys x)
    → (b : Bool) → cond b (Some y) (find p ys) ≡ Some x → Contains (y ∷ ys) x
found_in_at p y ys x later true h = (zero, omega arith, same_Some y x h)
found_in_at p y ys x later false h =
    let k = later h in let within : k.0 < length ys = k.1 in (suc k.0, omega arith, k.2)

-- what is found stands in the list
pub found_in : {X : Type 0} (p : X → Bool) (xs : List X) (x : X) → find p xs ≡ Some x → Contains xs x
found_in p [] x h = absurd (cc)
found_in p (y ∷ ys) x h = found_in_at p y ys x (found_in p ys x) (p y) h

passes_at : {X : Type 0} (p : X → Bool) (y : X) (xs : List X) (x : X) → (find p xs ≡ Some x → p x ≡ true) → (b : Bool)
    → p y ≡ b → cond b (Some y) (find p xs) ≡ Some x → p x ≡ true
passes_at p y xs x later true is h = sym (ap p (same_Some y x h)) ∙ is
passes_at p y xs x later false is h = later h

-- it passes the test
pub find_passes : {X : Type 0} (p : X → Bool) (xs : List X) (x : X) → find p xs ≡ Some x → p x ≡ true
find_passes p [] x h = absurd (cc)
find_passes p (y ∷ xs) x h = passes_at p y xs x (find_passes p xs x) (p y) refl h

-- what each element has, it has
pub find_has : {X : Type 0} (P : X → Type 0) (p : X → Bool) (xs : List X) (x : X) → All P xs → find p xs ≡ Some x → P x
find_has P p xs x all h = All-contains P xs x all (found_in p xs x h)
