-- Sums over lists.
use Rattle.std.proofs.Common.{◌≡◌, ℕ, ◌+◌, Bool, true, false, List, [], ◌∷◌, refl, arith, cond, Option}
use Rattle.std.specs.Prelude.{Some, None, filter, sum_by}
use Rattle.std.specs.List.{All, cons_option}
use Rattle.std.proofs.lemmas.List.Elements.{All-head, All-tail}
use Rattle.std.proofs.lemmas.List.Sums.{sum_by-cons}
use Rattle.gu_base.specs.Fees.{counted}
use Rattle.gu_base.specs.declared.node.Charge.{Charge}

pub sum_agree_on : {X : Type 0} (f g : X → ℕ) (xs : List X) → All (λ x. f x ≡ g x) xs → sum_by f xs ≡ sum_by g xs
sum_agree_on f g [] all = refl
sum_agree_on {X} f g (x ∷ xs) all =
    let a = sum_by-cons f x xs in
    let b = sum_by-cons g x xs in
    let c = sum_agree_on f g xs (All-tail (λ (x : X). f x ≡ g x) x xs all) in
    let d = All-head (λ (x : X). f x ≡ g x) x xs all in
    omega (arith, a, b, c, d)

pub sum_plus : {X : Type 0} (f g : X → ℕ) (xs : List X) → sum_by (λ x. f x + g x) xs ≡ sum_by f xs + sum_by g xs
sum_plus f g [] = refl
sum_plus f g (x ∷ xs) =
    let a = sum_by-cons (λ x. f x + g x) x xs in
    let b = sum_by-cons f x xs in
    let c = sum_by-cons g x xs in
    let d = sum_plus f g xs in
    omega (arith, a, b, c, d)

-- an element that may be kept adds what it counts, if it is
pub sum_kept : {X : Type 0} (w : X → ℕ) (b : Bool) (x : X) (rest : List X)
    → sum_by w (cond b (x ∷ rest) rest) ≡ cond b (w x) 0 + sum_by w rest
sum_kept w true x rest = sum_by-cons w x rest
sum_kept w false x rest = omega arith

-- a charge that may be there adds what it counts, if it is there and the test takes it
pub sum_option : (takes : Charge → Bool) (counts : Charge → ℕ) (o : Option Charge) (rest : List Charge)
    → sum_by counts (filter takes (cons_option o rest)) ≡ counted takes counts o + sum_by counts (filter takes rest)
sum_option takes counts None rest = omega arith
sum_option takes counts (Some c) rest = sum_kept counts (takes c) c (filter takes rest)
