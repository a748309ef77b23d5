-- Marks of SOH: how they are made, what the lowest one says, and what is left without it.
use Rattle.std.proofs.Common.{◌≡◌, ◌⊎◌, ℕ, zero, suc, ◌+◌, ◌-◌, ◌*◌, ◌/◌, ◌%◌, ◌^◌, ◌<◌, ◌≤◌, Bool, true, false, cond}
use Rattle.std.proofs.Common.{eqb, leb, List, [], ◌∷◌, map, length, get_or, drop, replicate, refl, sym, ap, subst, ◌∙◌}
use Rattle.std.proofs.Common.{arith, inl, inr, w8, w64, length-drop, mod-lt}
use Rattle.std.specs.Int.{bit_at}
use Rattle.std.specs.List.{position_or_len}
use Rattle.std.proofs.lemmas.Bool.{cases_lt, cases_order, eq-eqb, ne_eqb, leb-true}
use Rattle.std.proofs.lemmas.Bool.Decides.{nat_tests}
use Rattle.std.proofs.lemmas.Simd.{bitmask_splat, bit_mask_l, length-chunk, get_or-chunk}
use Rattle.std.proofs.lemmas.List.{length-map, get_or_past, get_or-drop}
use Rattle.std.proofs.lemmas.List.Sums.{position_or_len_is}
use Rattle.std.proofs.lemmas.Nat.{shr-shr, pow_pos}
use Rattle.std.proofs.lemmas.Nat.Bits.{bit_at-zero, bit_at_or, bit_at_cat_low, bit_at_cat_high, bit_at_above}
use Rattle.std.proofs.lemmas.Nat.Bits.{bit_at_lowest, bit_at-suc, bit_at-trailing_zeros}
use lib.Bits.{bit_or}
use lib.Count.{count_trailing_zeros}
use lib.Pow.{field, mod-mod-pow}
use mir.Val.{bool_byte}
use lib.Lanes.{chunk, zip2, mask_l, top}
use Rattle.gu_codec.specs.Fields.{is_soh}
use Rattle.gu_codec.specs.MarkBits.{soh_bit, AreMarks, IsMarked}
use Rattle.gu_codec.proofs.LowestBit.{without_lowest, cleared}

map_at : (xs : List ℕ) (i : ℕ) → i < length xs → get_or (map is_soh xs) i false ≡ is_soh (get_or xs i 0)
map_at [] i lt = absurd (omega arith)
map_at (x ∷ xs) zero lt = refl
map_at (x ∷ xs) (suc i) lt = map_at xs i (omega arith)

-- ---- how they are made

-- the mask of a load
pub loaded : (bytes : List ℕ) (at n m : ℕ) → at + n ≤ length bytes → n ≤ 64
    → m ≡ mask_l (map (top 7) (zip2 (λ a b. cond (eqb a b) 255 0) (chunk at n bytes) (replicate n 1))) % 2 ^ 64
    → AreMarks bytes at n m
loaded bytes at n m room few e =
    let xs = chunk at n bytes in
    let long = length-chunk at n bytes room in
    let is : m ≡ mask_l (map is_soh xs) = e ∙ bitmask_splat w8 eqb xs n 1 long few in
    let bit = λ (i : ℕ). ap (λ k. bit_at k i) is ∙ bit_mask_l (map is_soh xs) i in
    record {
      inside =
          λ i lt. bit i ∙ ap (λ b. cond b 1 0) (map_at xs i (omega arith) ∙ ap is_soh (get_or-chunk at n bytes i 0 lt));
      outside = λ i le.
          bit i ∙ ap (λ b. cond b 1 0) (get_or_past (map is_soh xs) i false (omega (arith, length-map xs is_soh)));
    }

-- past the end there is none
soh_past : (bytes : List ℕ) (k : ℕ) → length bytes ≤ k → soh_bit bytes k ≡ 0
soh_past bytes k le = ap (λ x. cond (is_soh x) 1 0) (get_or_past bytes k 0 le)

bit_within : (n i : ℕ) → i < 64 → bit_at (n % 2 ^ 64) i ≡ bit_at n i
bit_within n i h =
    let e : 63 - i + 1 + i ≡ 64 = omega arith in
    subst (λ w. bit_at (n % 2 ^ w) i ≡ bit_at n i) e
    (ap (λ x. x % 2) (field n (63 - i + 1) i) ∙ mod-mod-pow (n / 2 ^ i) (63 - i) 1)

-- the bits of `b << k`
shifted_low : (b k i : ℕ) → i < k → i < 64 → bit_at (b * 2 ^ k % 2 ^ 64) i ≡ 0
shifted_low b k i lt few =
    bit_within (b * 2 ^ k) i few ∙ ap (λ n. bit_at n i) (omega arith) ∙ bit_at_cat_low b k 0 i lt ∙ bit_at-zero i

pub shifted_high : (b k i : ℕ) → k ≤ i → i < 64 → bit_at (b * 2 ^ k % 2 ^ 64) i ≡ bit_at b (i - k)
shifted_high b k i le few =
    bit_within (b * 2 ^ k) i few ∙ ap (λ n. bit_at n i) (omega arith) ∙ bit_at_cat_high b k 0 i (pow_pos k) le

-- bit i of either, where the first has it or the second
one_of : (a s i x : ℕ)
    → (bit_at a i ≡ x)
    × (bit_at s i ≡ 0) ⊎ ((bit_at a i ≡ 0) × (bit_at s i ≡ x) ⊎ ((bit_at a i ≡ x) × (bit_at s i ≡ x)))
    → bit_at (bit_or a s) i ≡ x
one_of a s i x (inl h) = omega (arith, bit_at_or a s i, h.0, h.1)
one_of a s i x (inr (inl h)) = omega (arith, bit_at_or a s i, h.0, h.1)
one_of a s i x (inr (inr h)) = omega (arith, bit_at_or a s i, h.0, h.1)

two_marks : (bytes : List ℕ) (n k a b i : ℕ) → k + n ≡ length bytes → k ≤ n → n ≤ 64 → AreMarks bytes 0 n a
    → AreMarks bytes k n b → i < 64 → bit_at (bit_or a (b * 2 ^ k % 2 ^ 64)) i ≡ soh_bit bytes i
two_marks bytes n k a b i e le few ha hb lt =
    let s = b * 2 ^ k % 2 ^ 64 in
    let same : 0 + i ≡ i = omega arith in
    let low = λ (within : i < n). ha.inside i within ∙ ap (soh_bit bytes) same in
    elim (cases_lt i k) [
      | inl before ↦ one_of a s i (soh_bit bytes i) (inl (low (omega arith), shifted_low b k i before lt))
      | inr high ↦ elim (cases_lt (i - k) n) [
        | inl there ↦
            let back : k + (i - k) ≡ i = omega arith in
            let here : bit_at s i ≡ soh_bit bytes i =
            shifted_high b k i high lt ∙ hb.inside (i - k) there ∙ ap (soh_bit bytes) back in
            elim (cases_lt i n) [
              | inl both ↦ one_of a s i (soh_bit bytes i) (inr (inr (low both, here)))
              | inr one ↦ one_of a s i (soh_bit bytes i) (inr (inl (ha.outside i one, here)))
            ]
        | inr past ↦
            let none = soh_past bytes i (omega arith) in
            one_of a s i (soh_bit bytes i)
            (inr (inl (ha.outside i (omega arith), shifted_high b k i high lt ∙ hb.outside (i - k) past ∙ sym none)))
      ]
    ]

-- the marks of the first n bytes and of the last n
pub joined : (bytes : List ℕ) (n k a b : ℕ) → k + n ≡ length bytes → k ≤ n → n ≤ 64
    → AreMarks bytes 0 n a → AreMarks bytes k n b → AreMarks bytes 0 64 (bit_or a (b * 2 ^ k % 2 ^ 64))
joined bytes n k a b e le few ha hb =
    record {
      inside = λ i lt. two_marks bytes n k a b i e le few ha hb lt ∙ ap (soh_bit bytes) (omega arith);
      outside = λ i past.
          omega (
            arith,
            bit_at_or a (b * 2 ^ k % 2 ^ 64) i,
            ha.outside i (omega arith),
            bit_at_above (b * 2 ^ k % 2 ^ 64) 64 i (mod-lt (b * 2 ^ k) (omega arith)) past,
          );
    }

-- the last 64 bytes' marks from a place on
pub from_last : (bytes : List ℕ) (at m : ℕ) → 64 ≤ length bytes → at < length bytes → length bytes < at + 64
    → AreMarks bytes (length bytes - 64) 64 m → AreMarks bytes at 64 (m / 2 ^ (64 - (length bytes - at)))
from_last bytes at m long inside few h =
    let k = 64 - (length bytes - at) in
    let bit = λ (i : ℕ). ap (λ n. n % 2) (shr-shr m k i) in
    record {
      inside = λ i lt. bit i ∙ elim (cases_lt (k + i) 64) [
        | inl there ↦ h.inside (k + i) there ∙ ap (soh_bit bytes) (omega arith)
        | inr past ↦ h.outside (k + i) past ∙ sym (soh_past bytes (at + i) (omega arith))
      ];
      outside = λ i past. bit i ∙ h.outside (k + i) (omega arith);
    }

pub bool_bit : (b : Bool) → (bool_byte b < 2) × (bool_byte b ≡ cond b 1 0)
bool_bit true = (omega arith, refl)
bool_bit false = (omega arith, refl)

-- one more byte in front
pub pushed : (bytes : List ℕ) (at b m : ℕ) → b < 2 → b ≡ soh_bit bytes at
    → ((i : ℕ) → bit_at m i ≡ soh_bit bytes (suc at + i)) → (i : ℕ) → bit_at (m * 2 + b) i ≡ soh_bit bytes (at + i)
pushed bytes at b m small here h zero =
    bit_at_lowest (m * 2 + b) ∙ (omega arith) ∙ here ∙ ap (soh_bit bytes) (omega arith)
pushed bytes at b m small here h (suc i) =
    bit_at-suc (m * 2 + b) i ∙ ap (λ n. bit_at n i) (omega arith) ∙ h i ∙ ap (soh_bit bytes) (omega arith)

-- ---- what they say

-- what a bit of 0 or 1 says
bit_zero : (b : Bool) → ◌≡◌ {A = ℕ} (cond b 1 0) 0 → b ≡ false
bit_zero true e = absurd (omega arith)
bit_zero false e = refl

both_zero : (c : Bool) → ◌≡◌ {A = ℕ} (cond c 0 0) 0
both_zero true = refl
both_zero false = refl

bit_one : (b : Bool) → ◌≡◌ {A = ℕ} (cond b 1 0) 1 → b ≡ true
bit_one true e = refl
bit_one false e = absurd (omega arith)

marked_zero : (c : Bool) (n : ℕ) → c ≡ true → cond c n 0 ≡ 0 → n ≡ 0
marked_zero true n e z = z
marked_zero false n e z = absurd cc

marked_one : (c : Bool) (n : ℕ) → cond c n 0 ≡ 1 → (c ≡ true) × (n ≡ 1)
marked_one true n e = (refl, e)
marked_one false n e = absurd (omega arith)

le_true : (a b : ℕ) → a ≤ b → leb a b ≡ true
le_true a b le = grind (arith, nat_tests)

le_false : (a b : ℕ) → b < a → leb a b ≡ false
le_false a b lt = grind (arith, nat_tests)

-- no SOH stands before a place
abbrev pub NoneBefore : List ℕ → ℕ → Type 0
NoneBefore bytes at = (k : ℕ) → k < at → is_soh (get_or bytes k 0) ≡ false

module _ (bytes : List ℕ) (at n marks : ℕ) (h : AreMarks bytes at n marks) (before : NoneBefore bytes at) where
  -- none of the first m bits is set
  none_up_to : (m : ℕ) → m ≤ n → ((i : ℕ) → i < m → bit_at marks i ≡ 0) → NoneBefore bytes (at + m)
  none_up_to m few z k lt = elim (cases_lt k at) [
    | inl below ↦ before k below
    | inr above ↦
        let place : at + (k - at) ≡ k = omega arith in
        subst (λ (j : ℕ). is_soh (get_or bytes j 0) ≡ false) place
        (bit_zero _ (sym (h.inside (k - at) (omega arith)) ∙ z (k - at) (omega arith)))
  ]

  -- no bit is set
  pub none_marked : marks ≡ 0 → NoneBefore bytes (at + n)
  none_marked z = none_up_to n (omega arith) (λ i lt. ap (λ k. bit_at k i) z ∙ bit_at-zero i)

  -- the lowest bit that is set
  pub first_marked : at + n ≤ length bytes → 0 < marks → marks < 2 ^ 64
      → at + count_trailing_zeros 64 marks ≡ position_or_len is_soh bytes
  first_marked room some fits =
      let t = count_trailing_zeros 64 marks in
      let place = bit_at-trailing_zeros w64 marks some fits in
      let inside : t < n = elim (cases_lt t n) [
        | inl lt ↦ lt
        | inr past ↦ absurd (omega (arith, place.1, h.outside t past))
      ] in
      let here : is_soh (get_or bytes (at + t) 0) ≡ true = bit_one _ (sym (h.inside t inside) ∙ place.1) in
      sym (position_or_len_is is_soh bytes (at + t) 0 (omega arith) (none_up_to t (omega arith) place.2) (λ _. here))

-- where the lowest bit that is set stands, there is the first SOH
pub record Lowest (bytes : List ℕ) (at base marks end : ℕ) : Type 0 where
  pub from : at ≤ end
  pub inside : end < length bytes
  pub first : position_or_len is_soh (drop at bytes) ≡ end - at
  pub left : IsMarked bytes (end + 1) base (without_lowest marks)

module _ (bytes : List ℕ) (at base marks : ℕ) (h : IsMarked bytes at base marks) where
  -- a bit that isn't set
  unset : (i : ℕ) → i < 64 → at ≤ base + i → bit_at marks i ≡ 0 → is_soh (get_or bytes (base + i) 0) ≡ false
  unset i lt le z = bit_zero _ (marked_zero _ _ (le_true at (base + i) le) (sym (h.bits i lt) ∙ z))

  -- none of the first bits is set
  none_to : (n : ℕ) → n ≤ 64 → ((i : ℕ) → i < n → bit_at marks i ≡ 0) → (k : ℕ) → at ≤ k → k < base + n
      → is_soh (get_or bytes k 0) ≡ false
  none_to n few z k from to = elim (cases_lt k base) [
    | inl before ↦ h.clear k from before
    | inr behind ↦
        let e : base + (k - base) ≡ k = omega arith in
        subst (λ (j : ℕ). is_soh (get_or bytes j 0) ≡ false) e
        (unset (k - base) (omega arith) (omega arith) (z (k - base) (omega arith)))
  ]

  -- no bit is set, and more bytes are looked at
  pub further : (more : ℕ) → marks ≡ 0 → base + 64 ≤ length bytes → AreMarks bytes (base + 64) 64 more
      → IsMarked bytes at (base + 64) more
  further more z le m =
      record {
        within = h.within;
        begins = le;
        near = omega (arith, h.near);
        clear = none_to 64 (omega arith) (λ i lt. ap (λ n. bit_at n i) z ∙ bit_at-zero i);
        bits = λ i lt. m.inside i lt
            ∙ sym
            (ap (λ c. cond c (soh_bit bytes (base + 64 + i)) 0) (le_true at (base + 64 + i) (omega (arith, h.near))));
      }

  -- no bit is set, and no more bytes are there
  pub nothing_left : marks ≡ 0 → length bytes ≤ base + 64
      → position_or_len is_soh (drop at bytes) ≡ length (drop at bytes)
  nothing_left z le =
      let none = none_to 64 (omega arith) (λ i lt. ap (λ n. bit_at n i) z ∙ bit_at-zero i) in
      position_or_len_is is_soh (drop at bytes) (length (drop at bytes)) 0 (omega arith)
      (λ k lt. ap is_soh (get_or-drop at bytes k 0)
      ∙ none (at + k) (omega arith) (omega (arith, length-drop at bytes, h.within)))
      (λ lt. absurd (omega arith))

  -- the bits without the lowest
  others : (t : ℕ) → ((i : ℕ) → i < t → bit_at marks i ≡ 0) → at ≤ base + t → (i : ℕ) → i < 64
      → cond (eqb i t) 0 (bit_at marks i) ≡ cond (leb (base + t + 1) (base + i)) (soh_bit bytes (base + i)) 0
  others t low from i lt =
      let gone = λ (le : i ≤ t).
      sym (ap (λ c. cond c (soh_bit bytes (base + i)) 0) (le_false (base + t + 1) (base + i) (omega arith))) in
      elim (cases_order i t) [
        | inl same ↦ ap (λ c. cond c 0 (bit_at marks i)) (eq-eqb i t same) ∙ gone (omega arith)
        | inr other ↦ elim other [
          | inl below ↦ ap (cond (eqb i t) 0) (low i below) ∙ both_zero (eqb i t) ∙ gone (omega arith)
          | inr above ↦
              ap (λ c. cond c 0 (bit_at marks i)) (ne_eqb i t (λ e. omega (arith, e))) ∙ h.bits i lt
              ∙ ap (λ c. cond c (soh_bit bytes (base + i)) 0)
              (le_true at (base + i) (omega arith) ∙ sym (le_true (base + t + 1) (base + i) (omega arith)))
        ]
      ]

  -- the lowest bit that is set
  pub lowest : 0 < marks → marks < 2 ^ 64 → Lowest bytes at base marks (base + count_trailing_zeros 64 marks)
  lowest some fits =
      let t = count_trailing_zeros 64 marks in
      let end = base + t in
      let place = bit_at-trailing_zeros w64 marks some fits in
      let set = marked_one (leb at end) (soh_bit bytes end) (sym (h.bits t place.0) ∙ place.1) in
      let from : at ≤ end = leb-true at end set.0 in
      let soh : is_soh (get_or bytes end 0) ≡ true = bit_one _ set.1 in
      let inside : end < length bytes = elim (cases_lt end (length bytes)) [
        | inl lt ↦ lt
        | inr past ↦ absurd (omega (arith, set.1, soh_past bytes end past))
      ] in
      record {
        from = from;
        inside = inside;
        first =
            position_or_len_is is_soh (drop at bytes) (end - at) 0 (omega (arith, length-drop at bytes))
            (λ k lt.
            ap is_soh (get_or-drop at bytes k 0) ∙ none_to t (omega arith) place.2 (at + k) (omega arith) (omega arith))
            (λ lt.
            ap is_soh (get_or-drop at bytes (end - at) 0 ∙ ap (λ (j : ℕ). get_or bytes j 0) (omega arith)) ∙ soh);
        left = record {
          within = omega arith;
          begins = h.begins;
          near = omega arith;
          clear = λ k a b. absurd (omega arith);
          bits = λ i lt. cleared 64 marks i some fits ∙ others t place.2 from i lt;
        };
      }
