-- Words whose bits tell of each byte whether it passes a test.
use Rattle.std.proofs.Common.{◌≡◌, ◌≢◌, ℕ, suc, ◌+◌, ◌-◌, ◌*◌, ◌/◌, ◌%◌, ◌^◌, ◌<◌, ◌≤◌, min, max, Bool, true, false}
use Rattle.std.proofs.Common.{cond, eqb, leb, List, map, length, get_or, take, replicate, inl, inr, refl, sym, ap, ◌∙◌}
use Rattle.std.proofs.Common.{arith, w8, w64}
use Rattle.std.specs.Prelude.{◌&&◌, ◌||◌, not}
use Rattle.std.specs.Int.{bit_at, bit_not}
use Rattle.std.proofs.lemmas.Bool.{eq-eqb}
use Rattle.std.proofs.lemmas.List.{length-map, get_or-map, take_all}
use Rattle.std.proofs.lemmas.Simd.{bitmask_splat, bit_mask_l, mask_l-mod, map-map, zip2_splat, zip2_splat_left}
use Rattle.std.proofs.lemmas.Simd.{zip2_of_maps}
use Rattle.std.proofs.lemmas.Nat.{and_le_l}
use Rattle.std.proofs.lemmas.Nat.Bits.{bit_at_and, bit_at_or, bit_at_not, bit_at-suc, bit_at-zero}
use lib.Bits.{bit_and, bit_or}
use lib.Lanes.{zip2, mask_l, top}
use Rattle.gu_base.specs.Names.{is_digit}
use Rattle.gu_codec.specs.Fields.{is_short_front, short_front, ShortBehind}
use Rattle.gu_codec.specs.MarkBits.{AreBits, IsWindow}
use Rattle.gu_codec.proofs.Marking.{shifted_high}

-- ---- how they are made

-- a window of 64 or 32 bytes
pub narrow : (n : ℕ) → IsWindow n → n ≢ 64 → n ≡ 32
narrow n (inl wide) ne = absurd (ne wide)
narrow n (inr is) ne = is

pub sizes : (n : ℕ) → IsWindow n → (32 ≤ n) × (n ≤ 64)
sizes n (inl is) = (omega (arith, is), omega (arith, is))
sizes n (inr is) = (omega (arith, is), omega (arith, is))

-- two tests of a byte in one bit
in_range : (x y : Bool) → top 7 (bit_and (cond x 255 0) (cond y 255 0)) ≡ (x && y)
in_range true true = refl
in_range true false = refl
in_range false true = refl
in_range false false = refl

module _ (bytes : List ℕ) (n : ℕ) (few : n ≤ 64) (long : length bytes ≡ n) where
  -- ---- a window

  all_taken : take n bytes ≡ bytes
  all_taken = take_all n bytes (omega (arith, long))

  long_enough : length (take n bytes) ≡ n
  long_enough = ap length all_taken ∙ long

  tested : (p : ℕ → Bool) (m : ℕ) → m ≡ mask_l (map p (take n bytes)) → AreBits p bytes m
  tested p m is i lt =
      ap (λ k. bit_at k i) (is ∙ ap (λ xs. mask_l (map p xs)) all_taken) ∙ bit_mask_l (map p bytes) i
      ∙ ap (λ b. cond b 1 0) (get_or-map p bytes i 0 false lt)

  -- the bytes that are one byte
  pub compared : (byte m : ℕ)
      → m ≡ mask_l (map (top 7) (zip2 (λ a b. cond (eqb a b) 255 0) (take n bytes) (replicate n byte))) % 2 ^ 64
      → AreBits (λ b. eqb b byte) bytes m
  compared byte m e = tested (λ b. eqb b byte) m (e ∙ bitmask_splat w8 eqb (take n bytes) n byte long_enough few)

  -- the bytes that are digits
  pub digits : (m : ℕ)
      → m ≡ mask_l (map (top 7)
      (zip2 bit_and (zip2 (λ a b. cond (leb a b) 255 0) (replicate n 48) (take n bytes))
      (zip2 (λ a b. cond (leb a b) 255 0) (take n bytes) (replicate n 57))))
      % 2 ^ 64
      → AreBits is_digit bytes m
  digits m e =
      let xs = take n bytes in
      let low : ℕ → ℕ = λ v. cond (leb 48 v) 255 0 in
      let high : ℕ → ℕ = λ v. cond (leb v 57) 255 0 in
      let lanes = zip2_of_maps bit_and low high xs (zip2_splat_left (λ a b. cond (leb a b) 255 0) 48 n xs long_enough)
      (zip2_splat (λ a b. cond (leb a b) 255 0) xs n 57 long_enough) in
      let tops = ap (map (top 7)) lanes ∙ map-map (top 7) (λ v. bit_and (low v) (high v)) xs
      ∙ (λ i. map (λ v. in_range (leb 48 v) (leb v 57) i) xs) in
      tested is_digit m
      (e ∙ ap (λ bs. mask_l bs % 2 ^ 64) tops
      ∙ mask_l-mod (map is_digit xs) 64 (omega (arith, long_enough, few, length-map xs is_digit)))

-- ---- what words of them say

-- the first n bits tell where p holds
abbrev Tells : ℕ → ℕ → (ℕ → Bool) → Type 0
Tells n word p = (i : ℕ) → i < n → bit_at word i ≡ cond (p i) 1 0

-- of fewer bits, of both tests, of either, of the opposite, one place on
fewer : (n m word : ℕ) (p : ℕ → Bool) → m ≤ n → Tells n word p → Tells m word p
fewer n m word p le h i lt = h i (omega arith)

both : (n a b : ℕ) (p q : ℕ → Bool) → Tells n a p → Tells n b q → Tells n (bit_and a b) (λ i. p i && q i)
both n a b p q ha hb i lt = bit_at_and a b i ∙ smaller (p i) (q i) _ _ (ha i lt) (hb i lt) where
  smaller : (x y : Bool) (k l : ℕ) → k ≡ cond x 1 0 → l ≡ cond y 1 0 → min k l ≡ cond (x && y) 1 0
  smaller true true k l e f = omega (arith, e, f)
  smaller true false k l e f = omega (arith, e, f)
  smaller false y k l e f = omega (arith, e)

either : (n a b : ℕ) (p q : ℕ → Bool) → Tells n a p → Tells n b q → Tells n (bit_or a b) (λ i. p i || q i)
either n a b p q ha hb i lt = bit_at_or a b i ∙ larger (p i) (q i) _ _ (ha i lt) (hb i lt) where
  larger : (x y : Bool) (k l : ℕ) → k ≡ cond x 1 0 → l ≡ cond y 1 0 → max k l ≡ cond (x || y) 1 0
  larger true true k l e f = omega (arith, e, f)
  larger true false k l e f = omega (arith, e, f)
  larger false true k l e f = omega (arith, e, f)
  larger false false k l e f = omega (arith, e, f)

others : (n a : ℕ) (p : ℕ → Bool) → n ≤ 64 → a < 2 ^ 64 → Tells n a p → Tells n (bit_not w64 a) (λ i. not (p i))
others n a p le small h i lt = bit_at_not w64 a i small (omega arith) ∙ other (p i) _ (h i lt) where
  other : (x : Bool) (k : ℕ) → k ≡ cond x 1 0 → 1 - k ≡ cond (not x) 1 0
  other true k e = omega (arith, e)
  other false k e = omega (arith, e)

behind : (n m a : ℕ) (p : ℕ → Bool) → n < m → Tells m a p → Tells n (a / 2) (λ i. p (suc i))
behind n m a p le h i lt = sym (bit_at-suc a i) ∙ h (suc i) (omega arith)

unfit : (x y : Bool) → x ≡ true → ◌≡◌ {A = ℕ} (cond (x && not y) 1 0) 0 → y ≡ true
unfit true true e z = refl
unfit true false e z = absurd (omega arith)
unfit false y e z = absurd cc

module _ (bytes : List ℕ) (soh digit zero equal : ℕ) where
  -- ---- the words of a window: where fields end and may begin

  -- where a tag ends: an `=`, and behind it a value
  abbrev ends : ℕ
  ends = bit_and equal (bit_not w64 (soh / 2))

  -- there, or a digit before it
  abbrev one_before : ℕ
  one_before = bit_or ends (bit_and digit (ends / 2))

  -- there, or one or two digits before it
  abbrev two_before : ℕ
  two_before = bit_or ends (bit_and digit (one_before / 2))

  -- where a tag of one to three digits begins
  abbrev fronts : ℕ
  fronts = bit_and digit (bit_and (bit_not w64 zero) (two_before / 2))

  abbrev byte : ℕ → ℕ
  byte i = get_or bytes i 0

  -- where no field begins behind a SOH, a bit is set
  pub all_begin : 5 ≤ length bytes → length bytes ≤ 64 → soh < 2 ^ 64 → digit < 2 ^ 64 → zero < 2 ^ 64
      → AreBits (λ b. eqb b 1) bytes soh → AreBits is_digit bytes digit → AreBits (λ b. eqb b 48) bytes zero
      → AreBits (λ b. eqb b 61) bytes equal
      → bit_and soh (bit_not w64 (fronts / 2)) * 2 ^ (69 - length bytes) % 2 ^ 64 ≡ 0
      → ShortBehind bytes (length bytes - 5)
  all_begin some few small-s small-d small-z s d z e none k lt is =
      let n = length bytes in
      let soh_at : ℕ → Bool = λ i. eqb (byte i) 1 in
      let digit_at : ℕ → Bool = λ i. is_digit (byte i) in
      let zero_at : ℕ → Bool = λ i. eqb (byte i) 48 in
      let end_at : ℕ → Bool = λ i. eqb (byte i) 61 && not (soh_at (suc i)) in
      let one_at : ℕ → Bool = λ i. end_at i || (digit_at i && end_at (suc i)) in
      let two_at : ℕ → Bool = λ i. end_at i || (digit_at i && one_at (suc i)) in
      let front_at : ℕ → Bool = λ i. digit_at i && (not (zero_at i) && two_at (suc i)) in
      let digits-to : (m : ℕ) → m ≤ n → Tells m digit digit_at = λ m le. fewer n m digit digit_at le d in
      let ends-to : (m : ℕ) → m < n → Tells m ends end_at = λ m le.
      both m equal (bit_not w64 (soh / 2)) (λ i. eqb (byte i) 61) (λ i. not (soh_at (suc i)))
      (fewer n m equal (λ i. eqb (byte i) 61) (omega arith) e)
      (others m (soh / 2) (λ i. soh_at (suc i)) (omega arith) (omega arith) (behind m n soh soh_at le s)) in
      let one-to : (m : ℕ) → m + 1 < n → Tells m one_before one_at = λ m le.
      either m ends (bit_and digit (ends / 2)) end_at (λ i. digit_at i && end_at (suc i)) (ends-to m (omega arith))
      (both m digit (ends / 2) digit_at (λ i. end_at (suc i)) (digits-to m (omega arith))
      (behind m (m + 1) ends end_at (omega arith) (ends-to (m + 1) le))) in
      let two-to : (m : ℕ) → m + 2 < n → Tells m two_before two_at = λ m le.
      either m ends (bit_and digit (one_before / 2)) end_at (λ i. digit_at i && one_at (suc i))
      (ends-to m (omega arith))
      (both m digit (one_before / 2) digit_at (λ i. one_at (suc i)) (digits-to m (omega arith))
      (behind m (m + 1) one_before one_at (omega arith) (one-to (m + 1) (omega arith)))) in
      let fronts-to : (m : ℕ) → m + 3 < n → Tells m fronts front_at = λ m le.
      both m digit (bit_and (bit_not w64 zero) (two_before / 2)) digit_at (λ i. not (zero_at i) && two_at (suc i))
      (digits-to m (omega arith))
      (both m (bit_not w64 zero) (two_before / 2) (λ i. not (zero_at i)) (λ i. two_at (suc i))
      (others m zero zero_at (omega arith) small-z (fewer n m zero zero_at (omega arith) z))
      (behind m (m + 1) two_before two_at (omega arith) (two-to (m + 1) (omega arith)))) in
      let below : fronts / 2 < 2 ^ 64 =
      omega (arith, small-d, and_le_l digit (bit_and (bit_not w64 zero) (two_before / 2))) in
      let left = bit_and soh (bit_not w64 (fronts / 2)) in
      let tells : Tells (k + 1) left (λ i. soh_at i && not (front_at (suc i))) =
      both (k + 1) soh (bit_not w64 (fronts / 2)) soh_at (λ i. not (front_at (suc i)))
      (fewer n (k + 1) soh soh_at (omega arith) s)
      (others (k + 1) (fronts / 2) (λ i. front_at (suc i)) (omega arith) below
      (behind (k + 1) (k + 2) fronts front_at (omega arith) (fronts-to (k + 2) (omega arith)))) in
      let up = 69 - n in
      let back : k + up - up ≡ k = omega arith in
      let moved = shifted_high left up (k + up) (omega arith) (omega arith) in
      let unset : bit_at left k ≡ 0 =
      ap (bit_at left) (sym back) ∙ sym moved ∙ ap (λ m. bit_at m (k + up)) none ∙ bit_at-zero (k + up) in
      let next : k + 1 ≡ suc k = omega arith in
      ap (short_front bytes) next ∙ sym (here (suc k))
      ∙ unfit (soh_at k) (front_at (suc k)) (eq-eqb (byte k) 1 is) (sym (tells k (omega arith)) ∙ unset)
    where
      here : (j : ℕ)
          → is_short_front (byte j) (byte (suc j)) (byte (suc (suc j))) (byte (suc (suc (suc j))))
          (byte (suc (suc (suc (suc j)))))
          ≡ short_front bytes j
      here j =
          let b : j + 1 ≡ suc j = omega arith in
          let c : j + 2 ≡ suc (suc j) = omega arith in
          let d : j + 3 ≡ suc (suc (suc j)) = omega arith in
          let e : j + 4 ≡ suc (suc (suc (suc j))) = omega arith in
          rw (b, c, d, e) refl
