-- A word without its lowest bit.
use Rattle.std.proofs.Common.{◌≡◌, ℕ, zero, suc, ◌+◌, ◌-◌, ◌*◌, ◌/◌, ◌%◌, ◌^◌, ◌<◌, min, cond, eqb, refl, sym, ap, ap₂}
use Rattle.std.proofs.Common.{◌∙◌, arith, mod-lt, zero-lt-suc, pow-suc}
use Rattle.std.specs.Int.{bit_at}
use Rattle.std.proofs.lemmas.Nat.Bits.{bit_at_lowest, bit_at-suc}
use lib.Bits.{bit_and, and_step, and_self}
use lib.Count.{count_trailing_zeros, under}
use lib.Dec.{eqb-zero-suc, eqb-suc-zero, eqb-suc-suc}

abbrev pub without_lowest : ℕ → ℕ
without_lowest x = bit_and x (x - 1)

abbrev Cleared : ℕ → ℕ → ℕ → Type 0
Cleared k x i = bit_at (without_lowest x) i ≡ cond (eqb i (count_trailing_zeros k x)) 0 (bit_at x i)

bit_cases : (P : ℕ → Type 0) → P 0 → P 1 → (x : ℕ) → x < 2 → P x
bit_cases P p q zero h = p
bit_cases P p q (suc zero) h = q
bit_cases P p q (suc (suc r)) h = absurd (omega arith)

halved_odd : (x : ℕ) → x % 2 ≡ 1 → (without_lowest x % 2 ≡ 0) × (without_lowest x / 2 ≡ x / 2)
halved_odd x e =
    let half : (x - 1) / 2 ≡ x / 2 = omega arith in
    let low : min (x % 2) ((x - 1) % 2) ≡ 0 = omega arith in
    let is : without_lowest x ≡ x / 2 * 2 + 0 =
    and_step x (x - 1) ∙ ap₂ (λ u v. u * 2 + v) (ap (bit_and (x / 2)) half ∙ and_self (x / 2)) low in
    (omega arith, omega arith)

halved_even : (x : ℕ) → 0 < x → x % 2 ≡ 0 → (without_lowest x % 2 ≡ 0) × (without_lowest x / 2 ≡ without_lowest (x / 2))
halved_even x some e =
    let half : (x - 1) / 2 ≡ x / 2 - 1 = omega arith in
    let low : min (x % 2) ((x - 1) % 2) ≡ 0 = omega arith in
    let is : without_lowest x ≡ without_lowest (x / 2) * 2 + 0 =
    and_step x (x - 1) ∙ ap₂ (λ u v. u * 2 + v) (ap (bit_and (x / 2)) half) low in
    (omega arith, omega arith)

-- whether a bit is left, where the bits above the lowest have so many zeros at their end
abbrev left : ℕ → ℕ → ℕ → ℕ → ℕ
left t x i r = cond (eqb i (under r t)) 0 (bit_at x i)

odd_step : (t x i : ℕ) → x % 2 ≡ 1 → bit_at (without_lowest x) i ≡ left t x i (x % 2)
odd_step t x zero e = bit_at_lowest (without_lowest x) ∙ (halved_odd x e).0 ∙ sym (ap (left t x 0) e)
odd_step t x (suc j) e =
    bit_at-suc (without_lowest x) j ∙ ap (λ n. bit_at n j) (halved_odd x e).1 ∙ sym (bit_at-suc x j)
    ∙ sym (ap (left t x (suc j)) e ∙ ap (λ b. cond b 0 (bit_at x (suc j))) (eqb-suc-zero j))

even_step : (k x i : ℕ) → 0 < x → x % 2 ≡ 0 → ((j : ℕ) → Cleared k (x / 2) j)
    → bit_at (without_lowest x) i ≡ left (count_trailing_zeros k (x / 2)) x i (x % 2)
even_step k x zero some e below =
    let t = count_trailing_zeros k (x / 2) in
    bit_at_lowest (without_lowest x) ∙ (halved_even x some e).0 ∙ sym (bit_at_lowest x ∙ e)
    ∙ sym (ap (left t x 0) e ∙ ap (λ b. cond b 0 (bit_at x 0)) (eqb-zero-suc t))
even_step k x (suc j) some e below =
    let t = count_trailing_zeros k (x / 2) in
    bit_at-suc (without_lowest x) j ∙ ap (λ n. bit_at n j) (halved_even x some e).1 ∙ below j
    ∙ ap (cond (eqb j t) 0) (sym (bit_at-suc x j))
    ∙ sym (ap (left t x (suc j)) e ∙ ap (λ b. cond b 0 (bit_at x (suc j))) (eqb-suc-suc j t))

-- `x & (x - 1)` is x without its lowest bit
pub cleared : (k x i : ℕ) → 0 < x → x < 2 ^ k → Cleared k x i
unfolding count_trailing_zeros
cleared zero x i some h = absurd (omega arith)
cleared (suc k) x i some h =
    bit_cases (λ r. x % 2 ≡ r → bit_at (without_lowest x) i ≡ left (count_trailing_zeros k (x / 2)) x i (x % 2))
    (λ e. even_step k x i some e (λ j. cleared k (x / 2) j (omega arith) (omega (arith, pow-suc 2 k))))
    (λ e. odd_step (count_trailing_zeros k (x / 2)) x i e) (x % 2) (mod-lt x (zero-lt-suc 1)) refl
