-- The lines of an archive.
use Rattle.std.specs.Prelude.{◌≡◌, ℕ, ◌+◌, ◌/◌, ◌%◌, Bool, nat_lt, if◌then◌else◌, List, [], ◌∷◌}
use Rattle.std.specs.Prelude.{◌++◌, codes, decimal, flat_map}
use Rattle.gu_archive.specs.declared.lines.Way.{Way}
use Rattle.gu_archive.specs.declared.lines.Way.TheVariants.{In, Out}

-- bytes
abbrev pub Text : Type 0
Text = List ℕ

-- a hexadecimal digit, in lower case
abbrev pub hex_digit : ℕ → ℕ
hex_digit n = if nat_lt n 10 then 48 + n else 87 + n

-- a byte in hex
abbrev pub hex_pair : ℕ → Text
hex_pair b = hex_digit (b / 16) ∷ hex_digit (b % 16) ∷ []

-- what a line begins with: its moment, the number of its connection, and its word
unfoldable pub front_text : Text → ℕ → Text → Text
front_text moment connection word = moment ++ codes " " ++ decimal connection ++ codes " " ++ word

-- a line of a text
unfoldable pub text_line : Text → ℕ → Text → Text → Text
text_line moment connection word text =
    front_text moment connection word ++ codes " : " ++ text ++ 10 ∷ []

-- a line of bytes in hex
unfoldable pub hex_line : Text → ℕ → Text → Text → Text
hex_line moment connection word bytes =
    front_text moment connection word ++ codes " hex : " ++ flat_map hex_pair bytes ++ 10 ∷ []

-- the word of a way
abbrev pub way_word : Way → Text
way_word In = codes "IN"
way_word Out = codes "OUT"

-- bytes that went one way, and whether they stand as they are
pub record Piece : Type 0 where
  pub bytes : Text
  pub is_plain : Bool

-- their line
unfoldable pub piece_line : Text → ℕ → Way → Piece → Text
piece_line moment connection way piece =
    if piece.is_plain then text_line moment connection (way_word way) piece.bytes
    else hex_line moment connection (way_word way) piece.bytes

-- these lines say these bytes, each once and in order
abbrev pub Says : Text → ℕ → Way → Text → Text → Type 0
Says moment connection way lines bytes = (pieces : List Piece)
    × (lines ≡ flat_map (piece_line moment connection way) pieces)
    × (bytes ≡ flat_map (λ (p : Piece). p.bytes) pieces)

-- lines that say these bytes were appended
abbrev pub AppendsSaid : Text → ℕ → Way → Text → Text → Text → Type 0
AppendsSaid moment connection way before after bytes = (lines : Text)
    × (after ≡ before ++ lines) × Says moment connection way lines bytes
