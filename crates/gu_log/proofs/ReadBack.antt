-- A reader gets back what a line was made of.
use Rattle.std.proofs.Common.{
  ◌≡◌,
  ◌∙◌,
  ℕ,
  ◌+◌,
  ◌*◌,
  ◌/◌,
  ◌%◌,
  ◌<◌,
  Bool,
  true,
  false,
  ◌&&◌,
  ◌||◌,
  List,
  [],
  ◌∷◌,
  ◌++◌,
  Option,
  Some,
  sym,
  refl,
  ap,
  append_assoc,
  inl,
  inr,
}
use Rattle.std.specs.Prelude.{◌==◌, codes, flat_map, map, option_map, take}
use Rattle.std.specs.List.{AllByRecursion, list_all}
use Rattle.std.proofs.lemmas.Bool.{cases_Bool, ltb-true, or_parts}
use Rattle.gu_log.proofs.Bytes.{differs, all_parts, digits_back, IsPair, pairs_are, text_of, line_is}
use Rattle.gu_log.specs.Values.{
  Text,
  AreBytes,
  escaped,
  hex_digit,
  is_bare,
  is_bare_text,
  is_byte,
  is_printable,
  quoted,
  value_text,
}
use Rattle.gu_log.specs.Moments.{moment_text}
use Rattle.gu_log.specs.Words.{event_word}
use Rattle.gu_log.specs.Lines.{most_shown, field_pair, Pair, pair_text, fields_text, line_of, pairs_of, IsField}
use Rattle.gu_log.specs.Reading.{
  Mode,
  InKey,
  Before,
  InWord,
  InQuotes,
  Escape,
  Code,
  Closed,
  Read,
  with_key,
  with_value,
  next_pair,
  all_read,
  read,
  read_line,
}
use Rattle.gu_log.specs.declared.event.Event.{Event}
use Rattle.gu_log.specs.declared.lines.Field.{Field}

-- a key, a value and what follows, whole
abbrev whole : Text → Text → List Pair → Option Read
whole k v more = Some (record { key = k; value = v; more = more })

is_special : ℕ → Bool
is_special b = b == 34 || b == 92

-- a byte in quotes is read as itself
in_quotes : (b : ℕ) (tail : Text) → b < 256 → read InQuotes (escaped b ++ tail) ≡ with_value b (read InQuotes tail)
unfolding is_special
in_quotes b tail lt = elim (cases_Bool (b == 34 || b == 92)) [
  | inl e ↦ rw (e, differs is_special b 117 refl e) refl
  | inr e ↦ elim (cases_Bool (is_printable b)) [
    | inl p ↦ rw (e, p, (or_parts (b == 34) (b == 92) e).0, (or_parts (b == 34) (b == 92) e).1) refl
    | inr p ↦ rw (e, p) (ap (λ n. with_value n (read InQuotes tail)) (digits_back b lt))
  ]
]

-- so is a text
all_quoted : (s tail : Text) (more : List Pair) → AreBytes s → read Closed tail ≡ whole [] [] more
    → read InQuotes (flat_map escaped s ++ 34 ∷ tail) ≡ whole [] s more
all_quoted [] tail more h r = r
all_quoted (b ∷ s) tail more h r =
    let parts = all_parts is_byte b s h in
    ap (read InQuotes) (append_assoc (escaped b) (flat_map escaped s) (34 ∷ tail))
    ∙ in_quotes b (flat_map escaped s ++ 34 ∷ tail) (ltb-true b 256 parts.0)
    ∙ ap (with_value b) (all_quoted s tail more parts.1 r)

-- a text without quotes is read as itself
in_word : (s tail : Text) (more : List Pair) → list_all is_bare s ≡ true → read InWord tail ≡ whole [] [] more
    → read InWord (s ++ tail) ≡ whole [] s more
in_word [] tail more h r = r
in_word (b ∷ s) tail more h r =
    let parts = all_parts is_bare b s h in
    rw (differs is_bare b 32 refl parts.0, differs is_bare b 10 refl parts.0)
    (ap (with_value b) (in_word s tail more parts.1 r))

first_of_word : (b : ℕ) (s tail : Text) (more : List Pair) → list_all is_bare (b ∷ s) ≡ true
    → read InWord tail ≡ whole [] [] more
    → read Before ((b ∷ s) ++ tail) ≡ whole [] (b ∷ s) more
first_of_word b s tail more h r =
    let parts = all_parts is_bare b s h in
    rw (differs is_bare b 34 refl parts.0, differs is_bare b 32 refl parts.0, differs is_bare b 10 refl parts.0)
    (ap (with_value b) (in_word s tail more parts.1 r))

in_full : (s tail : Text) (more : List Pair) → AreBytes s → read Closed tail ≡ whole [] [] more
    → read Before (quoted s ++ tail) ≡ whole [] s more
in_full s tail more h r =
    ap (read InQuotes) (append_assoc (flat_map escaped s) (34 ∷ []) tail) ∙ all_quoted s tail more h r

-- a value is read as itself, if a space or a line's end stands after it
value_read : (s tail : Text) (more : List Pair) → AreBytes s → read Closed tail ≡ whole [] [] more
    → read InWord tail ≡ whole [] [] more
    → read Before (value_text s ++ tail) ≡ whole [] s more
value_read [] tail more h closed word = in_full [] tail more h closed
value_read (b ∷ s) tail more h closed word = elim (cases_Bool (list_all is_bare (b ∷ s))) [
  | inl e ↦ rw e (first_of_word b s tail more e word)
  | inr e ↦ rw e (in_full (b ∷ s) tail more h closed)
]

-- a key is read as itself
key_read : (k v rest : Text) (more : List Pair) → list_all is_bare k ≡ true → read Before rest ≡ whole [] v more
    → read InKey (k ++ 61 ∷ rest) ≡ whole k v more
key_read [] v rest more h r = r
key_read (b ∷ k) v rest more h r =
    let parts = all_parts is_bare b k h in
    rw (differs is_bare b 61 refl parts.0) (ap (with_key b) (key_read k v rest more parts.1 r))

pair_back : (p : Pair) (tail : Text) (more : List Pair) → IsPair p → read Closed tail ≡ whole [] [] more
    → read InWord tail ≡ whole [] [] more
    → read InKey (pair_text p ++ tail) ≡ whole p.0 p.1 more
pair_back p tail more h closed word =
    ap (read InKey) (append_assoc p.0 (61 ∷ value_text p.1) tail)
    ∙ key_read p.0 p.1 (value_text p.1 ++ tail) more h.0 (value_read p.1 tail more h.1 closed word)

-- what stands after a pair
after_pair : List Pair → Text
after_pair ps = fields_text ps ++ 10 ∷ []

-- so are the pairs that follow, after a closing quote and after a word
rest_read : (ps : List Pair) → AllByRecursion IsPair ps → (read Closed (after_pair ps) ≡ whole [] [] ps)
    × (read InWord (after_pair ps) ≡ whole [] [] ps)
unfolding after_pair
rest_read [] h = (refl, refl)
rest_read (p ∷ ps) h =
    let more = rest_read ps h.1 in
    let first = ap (λ t. next_pair (read InKey t)) (append_assoc (pair_text p) (fields_text ps) (10 ∷ []))
    ∙ ap next_pair (pair_back p (after_pair ps) ps h.0 more.0 more.1) in
    (first, first)

pairs_read : (p : Pair) (ps : List Pair) → AllByRecursion IsPair (p ∷ ps) → read_line (text_of (p ∷ ps)) ≡ Some (p ∷ ps)
unfolding after_pair
pairs_read p ps h =
    let more = rest_read ps h.1 in
    ap read_line (append_assoc (pair_text p) (fields_text ps) (10 ∷ []))
    ∙ ap (option_map all_read) (pair_back p (after_pair ps) ps h.0 more.0 more.1)

pub line_read : (sent : Text) (e : Event) (fs : List Field) → AreBytes sent → AllByRecursion IsField fs
    → read_line (line_of sent e fs) ≡ Some (pairs_of sent e fs)
line_read sent e fs h k = ap read_line (line_is sent e fs)
    ∙ pairs_read (codes "time", take most_shown (moment_text sent))
    ((codes "event", take most_shown (event_word e)) ∷ map field_pair fs) (pairs_are sent e fs h k)
