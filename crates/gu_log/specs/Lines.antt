-- The line of an event.
use Rattle.std.specs.Prelude.{ℕ, ◌<◌, ◌^◌, List, [], ◌∷◌, ◌++◌, codes, decimal, flat_map, map, take}
use Rattle.gu_log.specs.Moments.{moment_text}
use Rattle.gu_log.specs.Values.{Text, AreBytes, value_text}
use Rattle.gu_log.specs.Words.{event_word, key_word}
use Rattle.gu_log.specs.declared.event.Event.{Event}
use Rattle.gu_log.specs.declared.lines.Field.{Field}
use Rattle.gu_log.specs.declared.value.Value.{Value}
use Rattle.gu_log.specs.declared.value.Value.TheVariants.{Text as AText, Number}

-- the most bytes of a text that are shown
abbrev pub most_shown : ℕ
most_shown = 200

-- what a line shows of a value
abbrev pub shown : Value → Text
shown (AText s) = take most_shown s.now
shown (Number n) = decimal n

-- what the type of a value says of it
abbrev pub InRange : Value → Type 0
InRange (AText s) = AreBytes s.now
InRange (Number n) = n < 2 ^ 64

-- the same of a field
abbrev pub IsField : Field → Type 0
IsField f = InRange f.value

-- a key, and a value
abbrev pub Pair : Type 0
Pair = Text × Text

-- what a line shows of a field
abbrev pub field_pair : Field → Pair
field_pair f = (key_word f.key, shown f.value)

-- `key=value`
abbrev pub pair_text : Pair → Text
pair_text p = p.0 ++ 61 ∷ value_text p.1

-- what a line says: when it was, what it is, and its fields
abbrev pub pairs_of : Text → Event → List Field → List Pair
pairs_of sent event fields = (codes "time", take most_shown (moment_text sent))
    ∷ (codes "event", take most_shown (event_word event)) ∷ map field_pair fields

-- pairs, each behind a space
abbrev pub fields_text : List Pair → Text
fields_text [] = []
fields_text (p ∷ ps) = 32 ∷ pair_text p ++ fields_text ps

-- when it was, and what it is
unfoldable pub front_text : Text → Event → Text
front_text sent event = pair_text (codes "time", take most_shown (moment_text sent))
    ++ 32 ∷ pair_text (codes "event", take most_shown (event_word event))

-- that, its fields, and the end of the line
abbrev pub line_of : Text → Event → List Field → Text
line_of sent event fields = front_text sent event ++ fields_text (map field_pair fields) ++ 10 ∷ []
