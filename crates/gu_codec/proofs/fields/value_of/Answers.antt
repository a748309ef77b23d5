use Rattle.std.proofs.Common.{◌≡◌, ◌<◌, ◌-◌, ℕ, length, get_or, drop, true, false, ltb, refl, arith, below_more}
use Rattle.std.proofs.Common.{length-drop}
use Rattle.std.specs.List.{position_or_len}
use Rattle.std.proofs.lemmas.Bool.{ne_eqb, eq-eqb, lt-ltb}
use Rattle.std.proofs.lemmas.List.{take_all}
use Rattle.std.proofs.lemmas.List.Sums.{position_or_len_is}
use Rattle.gu_codec.specs.Fields.{is_soh}
use Rattle.gu_codec.proofs.fields.value_of.Goals as goal

pub returns-then-bytes-eq-SOH-4 : goal.returns-then-bytes-eq-SOH-4
returns-then-bytes-eq-SOH-4 c =
    let xs = c.args.bytes.now in
    let none : (k : ℕ) → k < 0 → is_soh (get_or xs k 0) ≡ false = λ k lt. absurd (omega arith) in
    let one : (k : ℕ) → k < 1 → is_soh (get_or xs k 0) ≡ false =
    below_more (λ (k : ℕ). is_soh (get_or xs k 0) ≡ false) 0 none (ne_eqb (get_or xs 0 0) 1 c.if-bytes-eq-SOH.false) in
    let two : (k : ℕ) → k < 2 → is_soh (get_or xs k 0) ≡ false =
    below_more (λ (k : ℕ). is_soh (get_or xs k 0) ≡ false) 1 one (ne_eqb (get_or xs 1 0) 1 c.if-bytes-eq-SOH-2.false) in
    let three : (k : ℕ) → k < 3 → is_soh (get_or xs k 0) ≡ false =
    below_more (λ (k : ℕ). is_soh (get_or xs k 0) ≡ false) 2 two (ne_eqb (get_or xs 2 0) 1 c.if-bytes-eq-SOH-3.false) in
    let at : position_or_len is_soh xs ≡ 3 =
    position_or_len_is is_soh xs 3 0 (omega arith) three (λ _. eq-eqb (get_or xs 3 0) 1 c.if-bytes-eq-SOH-4.true) in
    let inside : ltb 3 (length xs) ≡ true = lt-ltb 3 (length xs) (omega arith) in
    let all = take_all (length xs - 4) (drop 4 xs) (omega (arith, length-drop 4 xs)) in
    rw (at, inside, all) refl
