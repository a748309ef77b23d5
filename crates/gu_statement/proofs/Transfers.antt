-- What reads and writes do to known bytes.
use Rattle.std.proofs.Common.{◌≡◌, ℕ, zero, suc, ◌+◌, ◌-◌, List, [], ◌∷◌, ◌++◌, length, take, drop, Option, refl, sym}
use Rattle.std.proofs.Common.{ap, subst, ◌∙◌, arith}
use Rattle.std.proofs.lemmas.List.{take_rest}
use Rattle.std.specs.Io.KnownBytes.{Appends}
use Rattle.std.proofs.KnownBytes.{Appends-trans}

nothing : (k : ℕ) → take {A = ℕ} k [] ≡ []
nothing zero = refl
nothing (suc k) = refl

pub take_plus : (m n : ℕ) (xs : List ℕ) → take (m + n) xs ≡ take m xs ++ take n (drop m xs)
take_plus zero n xs = let e : zero + n ≡ n = omega arith in ap (λ (k : ℕ). take k xs) e
take_plus (suc m) n [] = nothing (suc m + n) ∙ sym (nothing n)
take_plus (suc m) n (x ∷ xs) =
    let e : suc m + n ≡ suc (m + n) = omega arith in
    ap (λ (k : ℕ). take k (x ∷ xs)) e ∙ ap (λ (t : List ℕ). x ∷ t) (take_plus m n xs)

-- one write more of what is left
pub Appends_more : (a b c : Option (List ℕ)) (bytes : List ℕ) (at n : ℕ) → Appends a b (take at bytes)
    → Appends b c (take n (take (length bytes - at) (drop at bytes))) → Appends a c (take (at + n) bytes)
Appends_more a b c bytes at n p q =
    subst (Appends a c)
    (ap (λ (t : List ℕ). take at bytes ++ take n t) (take_rest bytes at) ∙ sym (take_plus at n bytes))
    (Appends-trans a b c (take at bytes) (take n (take (length bytes - at) (drop at bytes))) p q)
