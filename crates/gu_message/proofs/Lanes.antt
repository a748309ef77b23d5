-- Bytes of which each is compared with one below it and one above it.
use Rattle.std.proofs.Common.{◌≡◌, ℕ, ◌^◌, ◌/◌, ◌%◌, ◌<◌, ◌≤◌, Bool, true, false, List, length, get_or, map, eqb, leb}
use Rattle.std.proofs.Common.{cond, refl, sym, ap, ◌∙◌, arith}
use Rattle.std.proofs.lemmas.Bool.{leb-true, eqb-true, false≢true}
use Rattle.std.proofs.lemmas.List.{get_or-map, length-map}
use Rattle.std.proofs.lemmas.Nat.Bits.{bit_at_ones}
use Rattle.std.proofs.lemmas.Simd.{get_or-zip2, length-zip2, mask_l-mod, bit_mask_l}
use lib.Lanes.{zip2, mask_l, top}
use lib.Bits.{bit_and}

-- a lane that is all ones where the first isn't above the second
abbrev pub holds : ℕ → ℕ → ℕ
holds a b = cond (leb a b) 255 0

both_hold : (l x h : ℕ) (b c : Bool) → leb l x ≡ b → leb x h ≡ c → top 7 (bit_and (cond b 255 0) (cond c 255 0)) ≡ true
    → (l ≤ x) × (x ≤ h)
both_hold l x h true true low high e = (leb-true l x low, leb-true x h high)
both_hold l x h true false low high e = absurd (false≢true e)
both_hold l x h false true low high e = absurd (false≢true e)
both_hold l x h false false low high e = absurd (false≢true e)

is_one : (b : Bool) → cond {A = ℕ} b 1 0 ≡ 1 → b ≡ true
is_one true e = refl
is_one false e = absurd (omega arith)

-- each bit of a full mask is set
lane_set : (ms : List Bool) (k : ℕ) → mask_l ms ≡ 65535 → k < 16 → get_or ms k false ≡ true
lane_set ms k full lt =
    is_one (get_or ms k false) (sym (bit_mask_l ms k) ∙ ap (λ (n : ℕ). n / 2 ^ k % 2) full ∙ bit_at_ones 16 k lt)

pub between : (v lowest highest : List ℕ) → length v ≡ 16 → length lowest ≡ 16 → length highest ≡ 16
    → eqb (mask_l (map (top 7) (zip2 bit_and (zip2 holds lowest v) (zip2 holds v highest))) % 2 ^ 64) 65535 ≡ true
    → (k : ℕ) → k < 16 → (get_or lowest k 0 ≤ get_or v k 0) × (get_or v k 0 ≤ get_or highest k 0)
between v lowest highest some low high full k lt =
    let a = zip2 holds lowest v in
    let b = zip2 holds v highest in
    let z = zip2 bit_and a b in
    let a_len : length a ≡ 16 = length-zip2 holds lowest v (low ∙ sym some) ∙ low in
    let b_len : length b ≡ 16 = length-zip2 holds v highest (some ∙ sym high) ∙ some in
    let z_len : length z ≡ 16 = length-zip2 bit_and a b (a_len ∙ sym b_len) ∙ a_len in
    let ms = map (top 7) z in
    let mask : mask_l ms ≡ 65535 =
    sym (mask_l-mod ms 64 (omega (arith, length-map z (top 7), z_len))) ∙ eqb-true (mask_l ms % 2 ^ 64) 65535 full in
    let set : get_or ms k false ≡ true = lane_set ms k mask lt in
    let lane : get_or ms k false ≡ top 7 (get_or z k 0) = get_or-map (top 7) z k 0 false (omega arith) in
    let of_both : get_or z k 0 ≡ bit_and (get_or a k 0) (get_or b k 0) =
    get_or-zip2 bit_and a b k 0 0 0 (omega arith) (omega arith) in
    let of_low : get_or a k 0 ≡ holds (get_or lowest k 0) (get_or v k 0) =
    get_or-zip2 holds lowest v k 0 0 0 (omega arith) (omega arith) in
    let of_high : get_or b k 0 ≡ holds (get_or v k 0) (get_or highest k 0) =
    get_or-zip2 holds v highest k 0 0 0 (omega arith) (omega arith) in
    both_hold (get_or lowest k 0) (get_or v k 0) (get_or highest k 0) (leb (get_or lowest k 0) (get_or v k 0))
    (leb (get_or v k 0) (get_or highest k 0)) refl refl (rw (of_both, of_low, of_high) at (sym lane ∙ set))
