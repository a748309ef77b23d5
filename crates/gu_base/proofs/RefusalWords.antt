-- The words of a refusal, with the digits of its number: what computes to the text that the code has.
use Rattle.std.proofs.Common.{◌≡◌, ◌<◌, ◌≤◌, ℕ, ◌+◌, ◌/◌, ◌%◌, List, [], ◌∷◌, ◌++◌, Bool, true, false, refl, ap, arith}
use Rattle.std.proofs.Common.{if◌then◌else◌}
use Rattle.std.specs.Prelude.{decimal, nat_le}
use Rattle.std.proofs.lemmas.Fmt.{decimal_digit, decimal_step}
use Rattle.std.proofs.lemmas.Bool.Decides.{nat_tests}
use Rattle.gu_base.specs.Texts.{number_of, head_of, words_of}
use Rattle.gu_base.specs.declared.refusal.Refusal.{Refusal}

-- a number of one or two digits, digit by digit
abbrev spelled : ℕ → Bool → Bool → List ℕ
spelled n wide two =
    if wide then decimal n else (if two then (48 + n / 10) ∷ (48 + n % 10) ∷ [] else (48 + n) ∷ [])

spelled_is : (n : ℕ) (wide two : Bool) → nat_le 100 n ≡ wide → nat_le 10 n ≡ two → decimal n ≡ spelled n wide two
spelled_is n true two w t = refl
spelled_is n false true w t =
    let few : n < 100 = grind (arith, nat_tests) in
    let some : 10 ≤ n = grind (arith, nat_tests) in
    rw (decimal_step n some (omega (arith, few)), decimal_digit (n / 10) (omega (arith, few))) refl
spelled_is n false false w t = decimal_digit n (grind (arith, nat_tests))

pub words_are : (r : Refusal)
    → words_of r ≡ spelled (number_of r) (nat_le 100 (number_of r)) (nat_le 10 (number_of r)) ++ head_of r
words_are r = ap (λ d. d ++ head_of r) (spelled_is (number_of r) _ _ refl refl)
