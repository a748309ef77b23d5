-- A line is printable up to its line feed.
use Rattle.std.proofs.Common.{
  ◌≡◌,
  ◌∙◌,
  ℕ,
  Bool,
  true,
  false,
  List,
  [],
  ◌∷◌,
  ◌++◌,
  sym,
  refl,
  ap,
  append_assoc,
  inl,
  inr,
}
use Rattle.std.specs.Prelude.{codes, flat_map, map, take}
use Rattle.std.specs.List.{AllByRecursion, list_all}
use Rattle.std.proofs.lemmas.Bool.{cases_Bool, ltb-true}
use Rattle.gu_log.proofs.Bytes.{
  all_parts,
  all_from,
  all_joined,
  bare_shows,
  escaped_shows,
  IsPair,
  pairs_are,
  text_of,
  line_is,
}
use Rattle.gu_log.specs.Values.{Text, AreBytes, escaped, is_bare, is_byte, is_printable, quoted, value_text}
use Rattle.gu_log.specs.Moments.{moment_text}
use Rattle.gu_log.specs.Words.{event_word}
use Rattle.gu_log.specs.Lines.{most_shown, field_pair, Pair, pair_text, fields_text, line_of, pairs_of, IsField}
use Rattle.gu_log.specs.declared.event.Event.{Event}
use Rattle.gu_log.specs.declared.lines.Field.{Field}

-- each of these is printable
Shows : Text → Type 0
Shows s = list_all is_printable s ≡ true

-- a value as it is, and in quotes
word_shows : (s : Text) → list_all is_bare s ≡ true → Shows s
unfolding Shows
word_shows [] h = refl
word_shows (b ∷ s) h = let parts = all_parts is_bare b s h in
    all_from is_printable b s (bare_shows b parts.0) (word_shows s parts.1)

quotes_show : (s : Text) → AreBytes s → Shows (flat_map escaped s)
unfolding Shows
quotes_show [] h = refl
quotes_show (b ∷ s) h =
    let parts = all_parts is_byte b s h in
    all_joined is_printable (escaped b) (flat_map escaped s) (escaped_shows b (ltb-true b 256 parts.0))
    (quotes_show s parts.1)

value_shows : (s : Text) → AreBytes s → Shows (value_text s)
unfolding Shows
value_shows [] h = refl
value_shows (b ∷ s) h = elim (cases_Bool (list_all is_bare (b ∷ s))) [
  | inl e ↦ rw e (word_shows (b ∷ s) e)
  | inr e ↦ rw e (all_joined is_printable (34 ∷ flat_map escaped (b ∷ s)) (34 ∷ []) (quotes_show (b ∷ s) h) refl)
]

-- pairs, and the whole line
pair_shows : (p : Pair) → IsPair p → Shows (pair_text p)
unfolding Shows
pair_shows p h = all_joined is_printable p.0 (61 ∷ value_text p.1) (word_shows p.0 h.0) (value_shows p.1 h.1)

fields_show : (ps : List Pair) → AllByRecursion IsPair ps → Shows (fields_text ps)
unfolding Shows
fields_show [] h = refl
fields_show (p ∷ ps) h =
    all_joined is_printable (32 ∷ pair_text p) (fields_text ps) (pair_shows p h.0) (fields_show ps h.1)

one_line : (p : Pair) (ps : List Pair) → AllByRecursion IsPair (p ∷ ps)
    → (text : Text) × (text_of (p ∷ ps) ≡ text ++ 10 ∷ []) × (list_all is_printable text ≡ true)
unfolding Shows
one_line p ps h = (
  pair_text p ++ fields_text ps,
  refl,
  all_joined is_printable (pair_text p) (fields_text ps) (pair_shows p h.0) (fields_show ps h.1),
)

pub line_shows : (sent : Text) (e : Event) (fs : List Field) → AreBytes sent → AllByRecursion IsField fs
    → (text : Text) × (line_of sent e fs ≡ text ++ 10 ∷ []) × (list_all is_printable text ≡ true)
line_shows sent e fs h k =
    let found = one_line (codes "time", take most_shown (moment_text sent))
    ((codes "event", take most_shown (event_word e)) ∷ map field_pair fs) (pairs_are sent e fs h k) in
    (found.0, line_is sent e fs ∙ found.1, found.2)
