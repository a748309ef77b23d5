-- Texts that are put in their places, and the digits of numbers.
use Rattle.std.proofs.Common.{◌≡◌, ◌∙◌, ◌≤◌, ◌<◌, ◌+◌, ◌-◌, ◌/◌, ℕ, List, ◌++◌, length, take, drop, ap, sym, arith}
use Rattle.std.proofs.Common.{append_assoc, length-append}
use Rattle.std.specs.Prelude.{decimal}
use Rattle.std.proofs.lemmas.List.{take-append-drop, take_at, length-take-le, drop-take}
use Rattle.itoa.proofs.Decimal.{length_one, length_pair}
use Rattle.itoa.proofs.Decimal as itoa

-- a text that stands behind what stood there, and before anything else
pub put_there : (old new text rest : List ℕ) (at end : ℕ) → at + length text ≡ end → at ≤ length old
    → take at new ≡ take at old → drop at new ≡ text ++ rest → take end new ≡ take at old ++ text
put_there old new text rest at end len fits before behind =
    let parts : new ≡ (take at old ++ text) ++ rest =
    sym (take-append-drop at new) ∙ rw (before, behind) (sym (append_assoc (take at old) text rest)) in
    ap (take end) parts
    ∙ take_at (take at old ++ text) rest end
    (omega (arith, length-append (take at old) text, length-take-le at old fits, len))

-- what stands from one place to another
pub between : (bytes : List ℕ) (from to : ℕ) → from ≤ to
    → take (to - from) (drop from bytes) ≡ drop from (take to bytes)
between bytes from to le =
    let is : from + (to - from) ≡ to = omega (arith, le) in
    sym (drop-take from (to - from) bytes) ∙ ap (λ (n : ℕ). drop from (take n bytes)) is

-- numbers of one digit, of two, three and four
pub length_under_ten : (n : ℕ) → n < 10 → 1 ≡ length (decimal n)
length_under_ten n lt = sym (length_one n lt)

pub length_two : (n : ℕ) → 10 ≤ n → n < 100 → 2 ≡ length (decimal n)
length_two n lo hi = sym (itoa.length_two n lo hi)

pub length_three : (n : ℕ) → 100 ≤ n → n < 1000 → 3 ≡ length (decimal n)
length_three n lo hi = omega (arith, length_pair n lo (omega arith), length_one (n / 100) (omega arith))

pub length_whole : (n : ℕ) → 1000 ≤ n → n < 10000 → 4 ≡ length (decimal n)
length_whole n lo hi =
    omega (arith, length_pair n (omega arith) (omega arith), itoa.length_two (n / 100) (omega arith) (omega arith))

-- how many digits a number below 10,000 has
pub ruleset digit_counts = (length_under_ten, length_two, length_three, length_whole)
