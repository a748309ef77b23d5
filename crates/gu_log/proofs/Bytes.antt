-- Bytes, and texts of them.
use Rattle.std.proofs.Common.{
  ◌≡◌,
  ◌∙◌,
  ℕ,
  zero,
  suc,
  ◌+◌,
  ◌*◌,
  ◌/◌,
  ◌%◌,
  ◌<◌,
  ◌^◌,
  Bool,
  true,
  false,
  ◌&&◌,
  ◌||◌,
  List,
  [],
  ◌∷◌,
  ◌++◌,
  length,
  take,
  drop,
  map,
  sym,
  refl,
  ap,
  append_assoc,
  subst,
  arith,
  eqb,
  inl,
  inr,
  leb,
  ◌≤◌,
}
use Rattle.std.specs.Prelude.{◌==◌, decimal, codes}
use Rattle.std.specs.List.{AllByRecursion, list_all}
use Rattle.std.proofs.lemmas.Bool.{
  false≢true,
  true≢false,
  both_ways,
  ltb-true,
  eqb-true,
  ne_eqb,
  and_parts,
  and_from,
  lt-ltb,
  agree_below,
  agree_below_at,
  cond_both,
  leb-true,
  le-leb,
  or_cases,
}
use Rattle.std.proofs.lemmas.List.Folds.{list_all-append}
use Rattle.std.proofs.lemmas.Fmt.{decimal_by_steps}
use Rattle.gu_log.specs.Values.{Text, AreBytes, escaped, hex_digit, is_bare, is_byte, is_printable}
use Rattle.gu_log.specs.Words.{event_word, key_word}
use Rattle.gu_log.specs.Lines.{
  Pair,
  shown,
  most_shown,
  field_pair,
  pair_text,
  fields_text,
  front_text,
  line_of,
  pairs_of,
  InRange,
  IsField,
}
use Rattle.gu_log.specs.Moments.{date_text, moment_text, sent_len}
use Rattle.gu_log.specs.Reading.{digit_value}
use Rattle.gu_log.specs.declared.event.Event.{Event}
use Rattle.gu_log.specs.declared.event.Event.TheVariants as event
use Rattle.gu_log.specs.declared.event.Key.{Key}
use Rattle.gu_log.specs.declared.event.Key.TheVariants as key
use Rattle.gu_log.specs.declared.lines.Field.{Field}
use Rattle.gu_log.specs.declared.value.Value.{Value}
use Rattle.gu_log.specs.declared.value.Value.TheVariants.{Text as AText, Number}

-- a byte that passes a test isn't one that doesn't
pub differs : (f : ℕ → Bool) (b n : ℕ) → f n ≡ false → f b ≡ true → (b == n) ≡ false
differs f b n off on = ne_eqb b n (λ e. both_ways (f n) off (ap f (sym e) ∙ on))

-- the test of all of a text, taken apart
pub all_parts : (f : ℕ → Bool) (b : ℕ) (s : Text) → list_all f (b ∷ s) ≡ true → (f b ≡ true) × (list_all f s ≡ true)
all_parts f b s h = and_parts (f b) (list_all f s) h

pub all_from : (f : ℕ → Bool) (b : ℕ) (s : Text) → f b ≡ true → list_all f s ≡ true → list_all f (b ∷ s) ≡ true
all_from f b s x y = and_from (f b) (list_all f s) x y

pub all_joined : (f : ℕ → Bool) (s t : Text) → list_all f s ≡ true → list_all f t ≡ true → list_all f (s ++ t) ≡ true
all_joined f s t x y = list_all-append f s t ∙ and_from (list_all f s) (list_all f t) x y

pub all_taken : (f : ℕ → Bool) (n : ℕ) (s : Text) → list_all f s ≡ true → list_all f (take n s) ≡ true
all_taken f zero s h = refl
all_taken f (suc n) [] h = refl
all_taken f (suc n) (b ∷ s) h = let parts = all_parts f b s h in
    all_from f b (take n s) parts.0 (all_taken f n s parts.1)

pub all_dropped : (f : ℕ → Bool) (n : ℕ) (s : Text) → list_all f s ≡ true → list_all f (drop n s) ≡ true
all_dropped f zero s h = h
all_dropped f (suc n) [] h = refl
all_dropped f (suc n) (b ∷ s) h = all_dropped f n s (all_parts f b s h).1

-- the number of a byte is had back from its two digits
number_back : ℕ → Bool
number_back b = 16 * (16 * 0 + digit_value (hex_digit (b / 16))) + digit_value (hex_digit (b % 16)) == b

pub digits_back : (b : ℕ) → b < 256 → 16 * (16 * 0 + digit_value (hex_digit (b / 16)))
    + digit_value (hex_digit (b % 16)) ≡ b
unfolding number_back
digits_back b lt = eqb-true _ _ (agree_below_at number_back (λ n. true) 256 b refl lt)

-- a byte in quotes is printable
shows : ℕ → Bool
shows b = list_all is_printable (escaped b)

pub escaped_shows : (b : ℕ) → b < 256 → list_all is_printable (escaped b) ≡ true
unfolding shows
escaped_shows b lt = agree_below_at shows (λ n. true) 256 b refl lt

-- so is one without
within : (lo hi b : ℕ) → 32 ≤ lo → hi ≤ 126 → (leb lo b && leb b hi) ≡ true → is_printable b ≡ true
within lo hi b l h e =
    let parts = and_parts (leb lo b) (leb b hi) e in
    and_from (leb 32 b) (leb b 126) (le-leb 32 b (omega (arith, leb-true lo b parts.0, l)))
    (le-leb b 126 (omega (arith, leb-true b hi parts.1, h)))

pub bare_shows : (b : ℕ) → is_bare b ≡ true → is_printable b ≡ true
bare_shows b h = elim (or_cases _ (leb 93 b && leb b 126) h) [
  | inr e ↦ within 93 126 b (omega arith) (omega arith) e
  | inl h ↦ elim (or_cases _ (leb 62 b && leb b 91) h) [
    | inr e ↦ within 62 91 b (omega arith) (omega arith) e
    | inl h ↦ elim (or_cases (eqb b 33) (leb 35 b && leb b 60) h) [
      | inr e ↦ within 35 60 b (omega arith) (omega arith) e
      | inl e ↦ subst (λ n. is_printable n ≡ true) (sym (eqb-true b 33 e)) refl
    ]
  ]
]

-- digits are bytes
pub decimal_bytes : (n : ℕ) → n < 2 ^ 64 → AreBytes (decimal n)
decimal_bytes n lt = decimal_by_steps (λ n ds. AreBytes ds)
    (λ n le. all_from is_byte (48 + n) [] (lt-ltb (48 + n) 256 (omega arith)) refl)
    (λ n ds le h. all_joined is_byte ds ((48 + n % 10) ∷ []) h
    (all_from is_byte (48 + n % 10) [] (lt-ltb (48 + n % 10) 256 (omega arith)) refl))
    n lt

-- words are bytes, and stand without quotes
pub event_bytes : (e : Event) → AreBytes (event_word e)
event_bytes event.Started = refl
event_bytes _ = refl

pub key_bare : (k : Key) → list_all is_bare (key_word k) ≡ true
key_bare key.Version = refl
key_bare _ = refl

pub shown_bytes : (v : Value) → InRange v → AreBytes (shown v)
shown_bytes (AText s) h = all_taken is_byte most_shown s.now h
shown_bytes (Number n) h = decimal_bytes n h

-- a key that stands without quotes, and bytes
abbrev pub IsPair : Pair → Type 0
IsPair p = (list_all is_bare p.0 ≡ true) × AreBytes p.1

pub fields_are : (fs : List Field) → AllByRecursion IsField fs → AllByRecursion IsPair (map field_pair fs)
fields_are [] h = h
fields_are (f ∷ fs) h = ((key_bare f.key, shown_bytes f.value h.0), fields_are fs h.1)

-- a moment is bytes
pub moment_bytes : (s : Text) → AreBytes s → AreBytes (moment_text s)
moment_bytes s h = cond_both (length s == sent_len) (date_text s ++ codes "T" ++ drop 9 s ++ codes "Z") s AreBytes
    (λ _. all_joined is_byte (date_text s ++ codes "T" ++ drop 9 s) (codes "Z")
    (all_joined is_byte (date_text s ++ codes "T") (drop 9 s)
    (all_joined is_byte (date_text s) (codes "T") date refl) (all_dropped is_byte 9 s h)) refl)
    (λ _. h)
  where
    date : AreBytes (date_text s)
    date = all_joined is_byte (take 4 s ++ codes "-" ++ take 2 (drop 4 s) ++ codes "-") (take 2 (drop 6 s))
        (all_joined is_byte (take 4 s ++ codes "-" ++ take 2 (drop 4 s)) (codes "-")
        (all_joined is_byte (take 4 s ++ codes "-") (take 2 (drop 4 s))
        (all_joined is_byte (take 4 s) (codes "-") (all_taken is_byte 4 s h) refl)
        (all_taken is_byte 2 (drop 4 s) (all_dropped is_byte 4 s h))) refl)
        (all_taken is_byte 2 (drop 6 s) (all_dropped is_byte 6 s h))

pub pairs_are : (sent : Text) (e : Event) (fs : List Field) → AreBytes sent → AllByRecursion IsField fs
    → AllByRecursion IsPair (pairs_of sent e fs)
pairs_are sent e fs h k = (
  (refl, all_taken is_byte most_shown (moment_text sent) (moment_bytes sent h)),
  ((refl, all_taken is_byte most_shown (event_word e) (event_bytes e)), fields_are fs k),
)

-- pairs with a space between two, and the end of a line
abbrev pub text_of : List Pair → Text
text_of [] = 10 ∷ []
text_of (p ∷ ps) = pair_text p ++ fields_text ps ++ 10 ∷ []

-- a line is the text of its pairs
pub line_is : (sent : Text) (e : Event) (fs : List Field) → line_of sent e fs ≡ text_of (pairs_of sent e fs)
unfolding front_text
line_is sent e fs = ap (λ t. t ++ 10 ∷ [])
    (append_assoc (pair_text (codes "time", take most_shown (moment_text sent)))
    (32 ∷ pair_text (codes "event", take most_shown (event_word e))) (fields_text (map field_pair fs)))
