-- Sums of lanes.
use Rattle.std.proofs.Common.{◌≡◌, ℕ, zero, suc, ◌+◌, ◌-◌, ◌%◌, ◌<◌, ◌≤◌, List, [], ◌∷◌, ◌++◌, length, get_or, take}
use Rattle.std.proofs.Common.{drop, replicate, bit_and, refl, ap, ap₂, sym, subst, ◌∙◌, arith, Fits, w8}
use Rattle.std.specs.Prelude.{sum}
use Rattle.std.proofs.lemmas.List.Sums.{sum_by-cons, sum_by-append}
use Rattle.std.proofs.lemmas.Nat.{and_mask}
use Rattle.std.proofs.lemmas.List.{take_all, drop-drop, length-drop, length-take-le, get_or-drop, take-append-drop}
use Rattle.std.proofs.lemmas.Simd.{Each1-from_get_or, length-replicate}
use Rattle.std.proofs.Math.Seq.{take-add}
use lib.Bits.{and_zero_r}
use lib.Lanes.{zip2, fold_l, Each1}

abbrev pub add_bytes : ℕ → ℕ → ℕ
add_bytes a b = (a + b) % 256

-- sums lane by lane, and of all lanes
sum_cons : (x : ℕ) (xs : List ℕ) → sum (x ∷ xs) ≡ x + sum xs
sum_cons x xs = sum_by-cons (λ y. y) x xs

pub sum_added : (xs ys : List ℕ) → length xs ≡ length ys → sum (zip2 add_bytes xs ys) % 256 ≡ (sum xs + sum ys) % 256
sum_added [] [] e = refl
sum_added [] (y ∷ ys) e = absurd (omega arith)
sum_added (x ∷ xs) [] e = absurd (omega arith)
sum_added (x ∷ xs) (y ∷ ys) e =
    omega (
      arith,
      sum_added xs ys (omega arith),
      sum_cons ((x + y) % 256) (zip2 add_bytes xs ys),
      sum_cons x xs,
      sum_cons y ys,
    )

pub folded : (a : ℕ) (xs : List ℕ) → a < 256 → fold_l add_bytes a xs ≡ (a + sum xs) % 256
folded a [] lt = omega arith
folded a (x ∷ xs) lt = omega (arith, folded ((a + x) % 256) xs (omega arith), sum_cons x xs)

-- what is kept of lanes by 255 behind zeros
pub masked : (front back : List ℕ) → Each1 (λ x. x < 256) back
    → sum (zip2 bit_and (front ++ back) (replicate (length front) 0 ++ replicate (length back) 255)) ≡ sum back
masked [] [] h = refl
masked [] (x ∷ back) h =
    omega (
      arith,
      sum_cons (bit_and x 255) (zip2 bit_and back (replicate (length back) 255)),
      masked [] back h.1,
      sum_cons x back,
      and_mask x 8,
      h.0,
    )
masked (x ∷ front) back h =
    omega (
      arith,
      sum_cons (bit_and x 0) (zip2 bit_and (front ++ back) (replicate (length front) 0 ++ replicate (length back) 255)),
      and_zero_r x,
      masked front back h,
    )

-- zeros in front, ones behind
drop_zeros : (n k : ℕ) (ys : List ℕ) → k ≤ n → drop k (replicate n 0 ++ ys) ≡ replicate (n - k) 0 ++ ys
drop_zeros n zero ys le = ap (λ (m : ℕ). replicate m 0 ++ ys) (omega arith)
drop_zeros zero (suc k) ys le = absurd (omega arith)
drop_zeros (suc n) (suc k) ys le = drop_zeros n k ys (omega arith) ∙ ap (λ (m : ℕ). replicate m 0 ++ ys) (omega arith)

take_ones : (n k : ℕ) → k ≤ n → take {A = ℕ} k (replicate n 255) ≡ replicate k 255
take_ones n zero le = refl
take_ones zero (suc k) le = absurd (omega arith)
take_ones (suc n) (suc k) le = ap (λ (ys : List ℕ). 255 ∷ ys) (take_ones n k (omega arith))

take_join : (a b : List ℕ) (n i : ℕ) → n ≡ length a + i → take n (a ++ b) ≡ a ++ take i b
take_join [] b n i e = ap (λ (k : ℕ). take k b) (e ∙ omega arith)
take_join (x ∷ a) b zero i e = absurd (omega arith)
take_join (x ∷ a) b (suc n) i e = ap (λ (t : List ℕ). x ∷ t) (take_join a b n i (omega arith))

abbrev pub kept : List ℕ
kept = replicate 16 0 ++ replicate 16 255

kept_are : (k : ℕ) → k ≤ 16 → take 16 (drop k kept) ≡ replicate (16 - k) 0 ++ replicate k 255
kept_are k le =
    ap (take 16) (drop_zeros 16 k (replicate 16 255) le)
    ∙ take_join (replicate (16 - k) 0) (replicate 16 255) 16 k (omega (arith, length-replicate {A = ℕ} (16 - k) 0))
    ∙ ap (λ ys. replicate (16 - k) 0 ++ ys) (take_ones 16 k le)

fits_below : (n : ℕ) (xs : List ℕ) → ((k : ℕ) → Fits w8 (get_or xs k 0)) → Each1 (λ x. x < 256) (drop n xs)
fits_below n xs h =
    Each1-from_get_or (λ x. x < 256) (drop n xs) 0
    (λ i lt. subst (λ x. x < 256) (sym (get_or-drop n xs i 0)) (h (n + i)).fits)

-- what is kept of the last 16 bytes
pub kept_sum : (bytes : List ℕ) (left : ℕ) → 16 ≤ length bytes → left ≤ 16 → ((k : ℕ) → Fits w8 (get_or bytes k 0))
    → sum (zip2 bit_and (take 16 (drop (length bytes - 16) bytes)) (take 16 (drop left kept)))
    ≡ sum (drop (length bytes - left) bytes)
kept_sum bytes left long few fits =
    let last = drop (length bytes - 16) bytes in
    let front = take (16 - left) last in
    let back = drop (16 - left) last in
    let same : back ≡ drop (length bytes - left) bytes =
    drop-drop (16 - left) (length bytes - 16) bytes ∙ ap (λ n. drop n bytes) (omega arith) in
    let all : take 16 last ≡ front ++ back =
    take_all 16 last (omega (arith, length-drop (length bytes - 16) bytes)) ∙ sym (take-append-drop (16 - left) last) in
    let a : length front ≡ 16 - left =
    length-take-le (16 - left) last (omega (arith, length-drop (length bytes - 16) bytes)) in
    let b : length back ≡ left = omega (arith, length-drop (16 - left) last, length-drop (length bytes - 16) bytes) in
    ap₂ (λ xs ms. sum (zip2 bit_and xs ms)) all
    (kept_are left few ∙ ap₂ (λ m n. replicate m 0 ++ replicate n 255) (sym a) (sym b))
    ∙ masked front back (subst (Each1 (λ x. x < 256)) (sym same) (fits_below (length bytes - left) bytes fits))
    ∙ ap sum same

-- a sum cut in two
pub sum_cut : (i : ℕ) (xs : List ℕ) → sum xs ≡ sum (take i xs) + sum (drop i xs)
sum_cut i xs = ap sum (sym (take-append-drop i xs)) ∙ sum_by-append (λ x. x) (take i xs) (drop i xs)

pub sum_on : (i n : ℕ) (xs : List ℕ) → sum (take (i + n) xs) ≡ sum (take i xs) + sum (take n (drop i xs))
sum_on i n xs = ap sum (take-add i n xs) ∙ sum_by-append (λ x. x) (take i xs) (take n (drop i xs))
