-- A text whose bytes lie where those of a usual timestamp do is a timestamp.
use Rattle.std.proofs.Common.{◌≡◌, ◌<◌, ◌≤◌, ◌+◌, ◌-◌, ◌*◌, ◌∙◌, ℕ, true, List, [], ◌∷◌, length, get_or, take, drop}
use Rattle.std.proofs.Common.{Some, refl, ap, arith, pos}
use Rattle.std.specs.Prelude.{codes}
use Rattle.std.proofs.lemmas.Bool.{le-leb, eq-eqb, and_from}
use Rattle.std.proofs.lemmas.List.{drop_more, drop_all}
use Rattle.jiff_core.proofs.CalendarLemmas.{days_in_month_bounds}
use Rattle.jiff_core.specs.Calendar.{days_in_month}
use Rattle.gu_base.specs.Names.{is_digit}
use Rattle.gu_message.specs.Values.{digits_of}
use Rattle.gu_message.specs.Timestamp.{is_day, is_clock, part, is_fraction, has_day, has_time, has_marks, is_timestamp}
use Rattle.gu_message.specs.Timestamp.{AreBetween}

digit : (b : ℕ) → 48 ≤ b → b ≤ 57 → is_digit b ≡ true
digit b low high = rw (le-leb 48 b low, le-leb b 57 high) refl

-- two bytes that are digits, and the number that they write
record Two (a b : ℕ) : Type 0 where
  pub tens_low : 48 ≤ a
  pub tens_high : a ≤ 57
  pub ones_low : 48 ≤ b
  pub ones_high : b ≤ 57

abbrev number : ℕ → ℕ → ℕ
number a b = (0 * 10 + (a - 48)) * 10 + (b - 48)

-- ---- the parts of a text

two_from : (t : List ℕ) (at : ℕ) → at + 2 ≤ length t → take 2 (drop at t) ≡ get_or t at 0 ∷ get_or t (at + 1) 0 ∷ []
two_from t at h = rw (drop_more t at 0 (omega arith), drop_more t (at + 1) 0 (omega arith)) refl

two_digits : (a b : ℕ) → Two a b → digits_of 2 (a ∷ b ∷ []) ≡ Some (number a b)
unfolding digits_of
two_digits a b d = rw (digit a d.tens_low d.tens_high, digit b d.ones_low d.ones_high) refl

part_two : (t : List ℕ) (at : ℕ) → at + 2 ≤ length t → Two (get_or t at 0) (get_or t (at + 1) 0)
    → part t at 2 ≡ Some (number (get_or t at 0) (get_or t (at + 1) 0))
part_two t at h d = ap (digits_of 2) (two_from t at h) ∙ two_digits (get_or t at 0) (get_or t (at + 1) 0) d

four_from : (t : List ℕ) → 4 ≤ length t → take 4 t ≡ get_or t 0 0 ∷ get_or t 1 0 ∷ get_or t 2 0 ∷ get_or t 3 0 ∷ []
four_from [] h = absurd (omega arith)
four_from (a ∷ []) h = absurd (omega arith)
four_from (a ∷ b ∷ []) h = absurd (omega arith)
four_from (a ∷ b ∷ c ∷ []) h = absurd (omega arith)
four_from (a ∷ b ∷ c ∷ d ∷ t) h = refl

part_four : (t : List ℕ) → 4 ≤ length t → Two (get_or t 0 0) (get_or t 1 0) → Two (get_or t 2 0) (get_or t 3 0)
    → (year : ℕ) × (part t 0 4 ≡ Some year)
unfolding digits_of
part_four t h a b =
    let w = get_or t 0 0 in
    let x = get_or t 1 0 in
    let y = get_or t 2 0 in
    let z = get_or t 3 0 in (
      ((number w x * 10 + (y - 48)) * 10 + (z - 48)),
      rw (
        four_from t h,
        digit w a.tens_low a.tens_high,
        digit x a.ones_low a.ones_high,
        digit y b.tens_low b.tens_high,
        digit z b.ones_low b.ones_high,
      )
          refl,
    )

-- the fraction: a dot and three digits
thousandths : (a b c d : ℕ) → a ≡ 46 → is_digit b ≡ true → Two c d → is_fraction (a ∷ b ∷ c ∷ d ∷ []) ≡ true
thousandths a b c d dot e two =
    rw (eq-eqb a 46 dot, e, digit c two.tens_low two.tens_high, digit d two.ones_low two.ones_high) refl

fraction_from : (t : List ℕ) → length t ≡ 21
    → drop 17 t ≡ get_or t 17 0 ∷ get_or t 18 0 ∷ get_or t 19 0 ∷ get_or t 20 0 ∷ []
fraction_from t h =
    rw (
      drop_more t 17 0 (omega arith),
      drop_more t 18 0 (omega arith),
      drop_more t 19 0 (omega arith),
      drop_more t 20 0 (omega arith),
      drop_all 21 t (omega arith),
    )
    refl

-- a day of the months 1 to 12 and 1 to 28
day_is : (year a b c d : ℕ) → Two a b → Two c d → 528 < a * 10 + b → a * 10 + b ≤ 540 → 528 < c * 10 + d
    → c * 10 + d ≤ 556 → is_day year (number a b) (number c d) ≡ true
day_is year a b c d month day m0 m1 d0 d1 =
    rw (
      le-leb 1 (number a b) (omega arith),
      le-leb (number a b) 12 (omega arith),
      le-leb 1 (number c d) (omega arith),
      le-leb (number c d) (days_in_month (pos year) (number a b))
          (omega (arith, (days_in_month_bounds (pos year) (number a b)).1)),
    ) refl

-- a time of the hours 0 to 23
clock_is : (a b c d e f : ℕ) → Two a b → Two c d → Two e f → a * 10 + b ≤ 551 → c ≤ 53 → e ≤ 53
    → is_clock (number a b) (number c d) (number e f) ≡ true
clock_is a b c d e f hour minute second h m s =
    rw
    (le-leb (number a b) 23 (omega arith), le-leb (number c d) 59 (omega arith), le-leb (number e f) 60 (omega arith))
    refl

from_ranges : (a b h k : ℕ) → (48 ≤ a) × (a ≤ h) → (48 ≤ b) × (b ≤ k) → h ≤ 57 → k ≤ 57 → Two a b
from_ranges a b h k tens ones few many = record {
  tens_low = tens.0;
  tens_high = omega (arith, tens.1);
  ones_low = ones.0;
  ones_high = omega (arith, ones.1);
}

-- what ten times one byte and the next are, at a place
abbrev pub two : List ℕ → ℕ → ℕ
two t at = get_or t at 0 * 10 + get_or t (at + 1) 0

module _ (t : List ℕ) (size : length t ≡ 21)
    (front : AreBetween t 0 (codes "00000000-00:00:0") (codes "99991929-29:59:5") 16)
    (back : AreBetween t 5 (codes "000-00:00:00.000") (codes "929-29:59:59.999") 16) where
  -- the marks between the parts
  marks : has_marks t ≡ true
  marks =
      rw (
        le-leb 17 (length t) (omega arith),
        eq-eqb (get_or t 8 0) 45 (omega (arith, front 8 (omega arith))),
        eq-eqb (get_or t 11 0) 58 (omega (arith, front 11 (omega arith))),
        eq-eqb (get_or t 14 0) 58 (omega (arith, front 14 (omega arith))),
      ) refl

  -- its parts, one after the other
  fraction : is_fraction (drop 17 t) ≡ true
  fraction =
      let b = back 13 (omega arith) in
      let last = from_ranges (get_or t 19 0) (get_or t 20 0) 57 57 (back 14 (omega arith)) (back 15 (omega arith))
      (omega arith) (omega arith) in
      ap is_fraction (fraction_from t size)
      ∙ thousandths (get_or t 17 0) (get_or t 18 0) (get_or t 19 0) (get_or t 20 0)
      (omega (arith, back 12 (omega arith))) (digit (get_or t 18 0) b.0 b.1) last

  day : 528 < two t 4 → two t 4 ≤ 540 → 528 < two t 6 → two t 6 ≤ 556 → has_day t ≡ true
  unfolding has_day
  day m0 m1 d0 d1 =
      let century = from_ranges (get_or t 0 0) (get_or t 1 0) 57 57 (front 0 (omega arith)) (front 1 (omega arith))
      (omega arith) (omega arith) in
      let decade = from_ranges (get_or t 2 0) (get_or t 3 0) 57 57 (front 2 (omega arith)) (front 3 (omega arith))
      (omega arith) (omega arith) in
      let month = from_ranges (get_or t 4 0) (get_or t 5 0) 49 57 (front 4 (omega arith)) (front 5 (omega arith))
      (omega arith) (omega arith) in
      let date = from_ranges (get_or t 6 0) (get_or t 7 0) 50 57 (front 6 (omega arith)) (front 7 (omega arith))
      (omega arith) (omega arith) in
      let year = part_four t (omega arith) century decade in
      rw (year.1, part_two t 4 (omega arith) month, part_two t 6 (omega arith) date)
      (day_is year.0 (get_or t 4 0) (get_or t 5 0) (get_or t 6 0) (get_or t 7 0) month date m0 m1 d0 d1)

  time : two t 9 ≤ 551 → has_time t ≡ true
  unfolding has_time
  time h =
      let hour = from_ranges (get_or t 9 0) (get_or t 10 0) 50 57 (front 9 (omega arith)) (front 10 (omega arith))
      (omega arith) (omega arith) in
      let minute = from_ranges (get_or t 12 0) (get_or t 13 0) 53 57 (front 12 (omega arith)) (front 13 (omega arith))
      (omega arith) (omega arith) in
      let second = from_ranges (get_or t 15 0) (get_or t 16 0) 53 57 (front 15 (omega arith)) (back 11 (omega arith))
      (omega arith) (omega arith) in
      rw (part_two t 9 (omega arith) hour, part_two t 12 (omega arith) minute, part_two t 15 (omega arith) second)
      (clock_is (get_or t 9 0) (get_or t 10 0) (get_or t 12 0) (get_or t 13 0) (get_or t 15 0) (get_or t 16 0) hour
      minute second h (omega (arith, front 12 (omega arith))) (omega (arith, front 15 (omega arith))))

  pub usual : 528 < two t 4 → two t 4 ≤ 540 → 528 < two t 6 → two t 6 ≤ 556 → two t 9 ≤ 551 → is_timestamp t ≡ true
  unfolding is_timestamp
  usual m0 m1 d0 d1 h =
      and_from _ _ (and_from _ _ (and_from _ _ marks fraction) (day m0 m1 d0 d1)) (time h)
