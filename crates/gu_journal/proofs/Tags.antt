-- The texts of tags of one digit, two and three.
use Rattle.gu_journal.proofs.Vocabulary.{arith, decimal, decimal_digit, refl, [], ℕ, ◌%◌, ◌++◌, ◌+◌, ◌/◌, ◌<◌, ◌∷◌, ◌≡◌}
use Rattle.gu_journal.proofs.Vocabulary.{◌≤◌}
use Rattle.std.proofs.lemmas.Fmt.{decimal_step}

pub one_digit : (n : ℕ) → n < 10 → (48 + n % 10) ∷ 61 ∷ [] ≡ decimal n ++ 61 ∷ []
one_digit n hi =
    let ones : n % 10 ≡ n = omega arith in
    rw (decimal_digit n hi, ones) refl

pub two_digits : (n : ℕ) → 10 ≤ n → n < 100 → (48 + n / 10 % 10) ∷ (48 + n % 10) ∷ 61 ∷ [] ≡ decimal n ++ 61 ∷ []
two_digits n lo hi =
    let tens : n / 10 % 10 ≡ n / 10 = omega arith in
    rw (decimal_step n lo (omega arith), decimal_digit (n / 10) (omega arith), tens) refl

pub three_digits : (n : ℕ) → 100 ≤ n → n < 1000
    → (48 + n / 100) ∷ (48 + n / 10 % 10) ∷ (48 + n % 10) ∷ 61 ∷ [] ≡ decimal n ++ 61 ∷ []
three_digits n lo hi =
    let hundreds : n / 10 / 10 ≡ n / 100 = omega arith in
    rw (
      decimal_step n (omega arith) (omega arith),
      decimal_step (n / 10) (omega arith) (omega arith),
      decimal_digit (n / 10 / 10) (omega arith),
      hundreds,
    ) refl

pub ruleset tag_texts = (one_digit, two_digits, three_digits)
