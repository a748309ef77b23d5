-- Bytes are ordered as the words of eight that they make, and texts as the rooms that hold them: with zeros behind, and
-- then as their lengths.
use Rattle.std.proofs.Common.{◌≡◌, ◌≤◌, ◌<◌, ◌+◌, ◌-◌, ◌*◌, ◌^◌, ℕ, zero, suc, true, false, List, [], ◌∷◌, length, take}
use Rattle.std.proofs.Common.{drop, replicate, refl, sym, ap, ◌∙◌, arith, slice_index}
use Rattle.std.specs.Int.{w64, from_be_bytes}
use Rattle.std.specs.declared.cmp.Ordering.{Ordering}
use Rattle.std.specs.declared.cmp.Ordering.TheVariants.{Less, Equal, Greater}
use Rattle.std.specs.Ordering.{MatchOrdering, nat_cmp, ordering_then, is_ne}
use Rattle.std.specs.Cmp.Lexicographic.{slice_cmp}
use Rattle.std.proofs.Math.Nat.{pow-suc}
use Rattle.std.proofs.lemmas.Cmp.{ranked}
use Rattle.std.proofs.lemmas.Nat.{mul-le}
use Rattle.std.proofs.lemmas.Bool.Decides.{nat_tests}

-- ---- numbers

-- the order of two numbers, from how they lie
from_ranked : (r : Ordering) (x y : ℕ) → MatchOrdering r (x < y) (x ≡ y) (y < x) → nat_cmp x y ≡ r
from_ranked Less x y h = grind (arith, nat_tests)
from_ranked Equal x y h = grind (arith, nat_tests)
from_ranked Greater x y h = grind (arith, nat_tests)

more_ranked : (r : Ordering) (x y c : ℕ) → MatchOrdering r (x < y) (x ≡ y) (y < x)
    → MatchOrdering r (c + x < c + y) (c + x ≡ c + y) (c + y < c + x)
more_ranked Less x y c h = let l : x < y = h in omega arith
more_ranked Equal x y c h = let e : x ≡ y = h in omega arith
more_ranked Greater x y c h = let l : y < x = h in omega arith

next_ranked : (r : Ordering) (x y : ℕ) → MatchOrdering r (x < y) (x ≡ y) (y < x)
    → MatchOrdering r (suc x < suc y) (suc x ≡ suc y) (suc y < suc x)
next_ranked Less x y h = let l : x < y = h in omega arith
next_ranked Equal x y h = let e : x ≡ y = h in omega arith
next_ranked Greater x y h = let l : y < x = h in omega arith

-- two digits to the base p: the higher ones decide
below_higher : (x y p h k : ℕ) → h < p → x < y → x * p + h < y * p + k
below_higher x y p h k a l =
    let up : suc x * p ≤ y * p = mul-le (suc x) p y p (omega arith) (omega arith) in
    let cut : suc x * p ≡ x * p + p = omega arith in
    omega arith

by_higher : (r : Ordering) (x y p h k : ℕ) → h < p → k < p → MatchOrdering r (x < y) (x ≡ y) (y < x)
    → nat_cmp (x * p + h) (y * p + k) ≡ ordering_then r (nat_cmp h k)
by_higher Less x y p h k a b l = from_ranked Less _ _ (below_higher x y p h k a l)
by_higher Equal x y p h k a b e =
    ap (λ z. nat_cmp (z * p + h) (y * p + k)) e
    ∙ from_ranked _ _ _ (more_ranked (nat_cmp h k) h k (y * p) (ranked h k _ refl))
by_higher Greater x y p h k a b l = from_ranked Greater _ _ (below_higher y x p k h b l)

-- ---- words

-- the number that bytes make, the first the highest
abbrev number : List ℕ → ℕ
number [] = 0
number (b ∷ s) = b * 256 ^ length s + number s

number_bound : (s : List ℕ) → ((i : ℕ) → slice_index s i < 256) → number s < 256 ^ length s
number_bound [] bytes = omega arith
number_bound (b ∷ s) bytes =
    let low : number s < 256 ^ length s = number_bound s (λ i. bytes (suc i)) in
    let first : b < 256 = bytes zero in
    let up : suc b * 256 ^ length s ≤ 256 * 256 ^ length s =
    mul-le (suc b) (256 ^ length s) 256 (256 ^ length s) (omega arith) (omega arith) in
    let cut : suc b * 256 ^ length s ≡ b * 256 ^ length s + 256 ^ length s = omega arith in
    omega (arith, pow-suc 256 (length s))

-- as many bytes are ordered as their numbers
number_order : (s t : List ℕ) → length s ≡ length t → ((i : ℕ) → slice_index s i < 256)
    → ((i : ℕ) → slice_index t i < 256) → nat_cmp (number s) (number t) ≡ slice_cmp nat_cmp s t
number_order [] [] e p q = refl
number_order [] (c ∷ t) e p q = absurd (omega arith)
number_order (b ∷ s) [] e p q = absurd (omega arith)
number_order (b ∷ s) (c ∷ t) e p q =
    let same : length s ≡ length t = omega arith in
    let bound : number t < 256 ^ length s = rw same (number_bound t (λ i. q (suc i))) in
    let later : nat_cmp (number s) (number t) ≡ slice_cmp nat_cmp s t =
    number_order s t same (λ i. p (suc i)) (λ i. q (suc i)) in
    ap (λ n. nat_cmp (b * 256 ^ length s + number s) (c * 256 ^ n + number t)) (sym same)
    ∙ by_higher (nat_cmp b c) b c (256 ^ length s) (number s) (number t) (number_bound s (λ i. p (suc i))) bound
    (ranked b c _ refl)
    ∙ ap (ordering_then (nat_cmp b c)) later

word_number : (s : List ℕ) → length s ≡ 8 → from_be_bytes w64 s ≡ number s
word_number [] e = absurd (omega arith)
word_number (a ∷ []) e = absurd (omega arith)
word_number (a ∷ b ∷ []) e = absurd (omega arith)
word_number (a ∷ b ∷ c ∷ []) e = absurd (omega arith)
word_number (a ∷ b ∷ c ∷ d ∷ []) e = absurd (omega arith)
word_number (a ∷ b ∷ c ∷ d ∷ f ∷ []) e = absurd (omega arith)
word_number (a ∷ b ∷ c ∷ d ∷ f ∷ g ∷ []) e = absurd (omega arith)
word_number (a ∷ b ∷ c ∷ d ∷ f ∷ g ∷ h ∷ []) e = absurd (omega arith)
word_number (a ∷ b ∷ c ∷ d ∷ f ∷ g ∷ h ∷ i ∷ []) e = omega arith
word_number (a ∷ b ∷ c ∷ d ∷ f ∷ g ∷ h ∷ i ∷ j ∷ s) e = absurd (omega arith)

-- eight bytes are ordered as the words that they make
pub word_order : (s t : List ℕ) (x y : ℕ) (r : Ordering) → length s ≡ 8 → length t ≡ 8
    → ((i : ℕ) → slice_index s i < 256) → ((i : ℕ) → slice_index t i < 256) → x ≡ from_be_bytes w64 s
    → y ≡ from_be_bytes w64 t → r ≡ nat_cmp x y → r ≡ slice_cmp nat_cmp s t
word_order s t x y r m n p q e f is =
    let left : x ≡ number s = e ∙ word_number s m in
    let right : y ≡ number t = f ∙ word_number t n in
    is ∙ rw (left, right) (number_order s t (m ∙ sym n) p q)

-- ---- word after word

then_further : (q r o : Ordering) → ordering_then q (ordering_then r o) ≡ ordering_then (ordering_then q r) o
then_further Less r o = refl
then_further Equal r o = refl
then_further Greater r o = refl

decides : (r o : Ordering) → is_ne r ≡ true → r ≡ ordering_then r o
decides Less o h = refl
decides Equal o h = absurd (cc)
decides Greater o h = refl

defers : (r o : Ordering) → is_ne r ≡ false → o ≡ ordering_then r o
defers Less o h = absurd (cc)
defers Equal o h = refl
defers Greater o h = absurd (cc)

-- the first n bytes decide, and where they are the same, those behind them
front_then_rest : (n : ℕ) (s t : List ℕ)
    → slice_cmp nat_cmp s t
    ≡ ordering_then (slice_cmp nat_cmp (take n s) (take n t)) (slice_cmp nat_cmp (drop n s) (drop n t))
front_then_rest zero s t = refl
front_then_rest (suc n) [] [] = refl
front_then_rest (suc n) [] (c ∷ t) = refl
front_then_rest (suc n) (b ∷ s) [] = refl
front_then_rest (suc n) (b ∷ s) (c ∷ t) =
    ap (ordering_then (nat_cmp b c)) (front_then_rest n s t) ∙ then_further (nat_cmp b c) _ _

by_front : (n : ℕ) (s t a b : List ℕ) (r : Ordering) → a ≡ take n s → b ≡ take n t → r ≡ slice_cmp nat_cmp a b
    → ordering_then r (slice_cmp nat_cmp (drop n s) (drop n t)) ≡ slice_cmp nat_cmp s t
by_front n s t a b r e f is =
    let front : r ≡ slice_cmp nat_cmp (take n s) (take n t) = is ∙ rw (e, f) refl in
    ap (λ q. ordering_then q (slice_cmp nat_cmp (drop n s) (drop n t))) front ∙ sym (front_then_rest n s t)

pub front_decides : (n : ℕ) (s t a b : List ℕ) (r : Ordering) → a ≡ take n s → b ≡ take n t → r ≡ slice_cmp nat_cmp a b
    → is_ne r ≡ true → r ≡ slice_cmp nat_cmp s t
front_decides n s t a b r e f is h = decides r _ h ∙ by_front n s t a b r e f is

pub rest_decides : (n : ℕ) (s t a b c d : List ℕ) (r : Ordering) → a ≡ take n s → b ≡ take n t → c ≡ drop n s
    → d ≡ drop n t → r ≡ slice_cmp nat_cmp a b → is_ne r ≡ false → slice_cmp nat_cmp c d ≡ slice_cmp nat_cmp s t
rest_decides n s t a b c d r e f g k is h =
    let rest : slice_cmp nat_cmp c d ≡ slice_cmp nat_cmp (drop n s) (drop n t) = rw (g, k) refl in
    rest ∙ defers r _ h ∙ by_front n s t a b r e f is

-- ---- rooms

zero_first : (r o : Ordering) (b : ℕ) → MatchOrdering r (0 < b) (0 ≡ b) (b < 0) → ordering_then o Less ≡ Less
    → ordering_then (ordering_then r o) Less ≡ Less
zero_first Less o b h e = refl
zero_first Equal o b h e = e
zero_first Greater o b h e = let l : b < 0 = h in absurd (omega arith)

-- no bytes come before as many zeros
zeros_first : (n : ℕ) (t : List ℕ) → length t ≡ n → ordering_then (slice_cmp nat_cmp (replicate n 0) t) Less ≡ Less
zeros_first zero [] e = refl
zeros_first zero (c ∷ t) e = absurd (omega arith)
zeros_first (suc n) [] e = absurd (omega arith)
zeros_first (suc n) (c ∷ t) e = zero_first (nat_cmp 0 c) _ c (ranked 0 c _ refl) (zeros_first n t (omega arith))

zero_last : (r o : Ordering) (b : ℕ) → MatchOrdering r (b < 0) (b ≡ 0) (0 < b) → ordering_then o Greater ≡ Greater
    → ordering_then (ordering_then r o) Greater ≡ Greater
zero_last Less o b h e = let l : b < 0 = h in absurd (omega arith)
zero_last Equal o b h e = e
zero_last Greater o b h e = refl

before_zeros : (n : ℕ) (s : List ℕ) → length s ≡ n
    → ordering_then (slice_cmp nat_cmp s (replicate n 0)) Greater ≡ Greater
before_zeros zero [] e = refl
before_zeros zero (b ∷ s) e = absurd (omega arith)
before_zeros (suc n) [] e = absurd (omega arith)
before_zeros (suc n) (b ∷ s) e = zero_last (nat_cmp b 0) _ b (ranked b 0 _ refl) (before_zeros n s (omega arith))

alike : (s : List ℕ) → slice_cmp nat_cmp s s ≡ Equal
alike [] = refl
alike (b ∷ s) = rw (from_ranked Equal b b refl) (alike s)

-- a room of n bytes: the first k are its text, and zeros are behind them
abbrev IsRoom : ℕ → ℕ → List ℕ → Type 0
IsRoom n k s = (k ≤ n) × (length s ≡ n) × (drop k s ≡ replicate (n - k) 0)

-- the rooms decide, and where they are the same, the lengths of their texts
room_order : (n k m : ℕ) (s t : List ℕ) → IsRoom n k s → IsRoom n m t
    → ordering_then (slice_cmp nat_cmp s t) (nat_cmp k m) ≡ slice_cmp nat_cmp (take k s) (take m t)
room_order n zero zero s t x y =
    let one : s ≡ t = x.2 ∙ sym y.2 in
    rw (one, alike t) refl
room_order n zero (suc m) s [] x y = absurd (omega (arith, y.0, y.1))
room_order n zero (suc m) s (c ∷ t) x y =
    let none : n - 0 ≡ n = omega arith in
    rw (x.2, none, from_ranked Less zero (suc m) (omega arith)) (zeros_first n (c ∷ t) y.1)
room_order n (suc k) zero [] t x y = absurd (omega (arith, x.0, x.1))
room_order n (suc k) zero (b ∷ s) t x y =
    let none : n - 0 ≡ n = omega arith in
    rw (y.2, none, from_ranked Greater (suc k) zero (omega arith)) (before_zeros n (b ∷ s) x.1)
room_order zero (suc k) (suc m) s t x y = absurd (omega (arith, x.0))
room_order (suc n) (suc k) (suc m) [] t x y = absurd (omega (arith, x.1))
room_order (suc n) (suc k) (suc m) (b ∷ s) [] x y = absurd (omega (arith, y.1))
room_order (suc n) (suc k) (suc m) (b ∷ s) (c ∷ t) x y =
    let cut : (j : ℕ) → suc n - suc j ≡ n - j = λ j. omega arith in
    let left : IsRoom n k s = (omega (arith, x.0), omega (arith, x.1), x.2 ∙ ap (λ j. replicate j 0) (cut k)) in
    let right : IsRoom n m t = (omega (arith, y.0), omega (arith, y.1), y.2 ∙ ap (λ j. replicate j 0) (cut m)) in
    let counts : nat_cmp (suc k) (suc m) ≡ nat_cmp k m =
    from_ranked _ _ _ (next_ranked (nat_cmp k m) k m (ranked k m _ refl)) in
    ap (ordering_then (ordering_then (nat_cmp b c) (slice_cmp nat_cmp s t))) counts
    ∙ sym (then_further (nat_cmp b c) (slice_cmp nat_cmp s t) (nat_cmp k m))
    ∙ ap (ordering_then (nat_cmp b c)) (room_order n k m s t left right)

by_rooms : (n k m : ℕ) (s t u v : List ℕ) (r : Ordering) → take k s ≡ u → take m t ≡ v → IsRoom n k s → IsRoom n m t
    → r ≡ slice_cmp nat_cmp s t → ordering_then r (nat_cmp k m) ≡ slice_cmp nat_cmp u v
by_rooms n k m s t u v r e f x y is =
    let texts : slice_cmp nat_cmp (take k s) (take m t) ≡ slice_cmp nat_cmp u v = rw (e, f) refl in
    ap (λ q. ordering_then q (nat_cmp k m)) is ∙ room_order n k m s t x y ∙ texts

pub rooms_decide : (n k m : ℕ) (s t u v : List ℕ) (r : Ordering) → take k s ≡ u → take m t ≡ v → IsRoom n k s
    → IsRoom n m t → r ≡ slice_cmp nat_cmp s t → is_ne r ≡ true → r ≡ slice_cmp nat_cmp u v
rooms_decide n k m s t u v r e f x y is h = decides r _ h ∙ by_rooms n k m s t u v r e f x y is

pub lengths_decide : (n k m : ℕ) (s t u v : List ℕ) (r o : Ordering) → take k s ≡ u → take m t ≡ v → IsRoom n k s
    → IsRoom n m t → r ≡ slice_cmp nat_cmp s t → is_ne r ≡ false → o ≡ nat_cmp k m → o ≡ slice_cmp nat_cmp u v
lengths_decide n k m s t u v r o e f x y is h p = p ∙ defers r _ h ∙ by_rooms n k m s t u v r e f x y is
