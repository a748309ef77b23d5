-- How a value is written.
use Rattle.std.specs.Prelude.{ℕ, ◌+◌, ◌/◌, ◌%◌, Bool, false, ◌&&◌, ◌||◌, ◌==◌, nat_le, nat_lt}
use Rattle.std.specs.Prelude.{if◌then◌else◌, ◌≡◌, true, List, [], ◌∷◌, ◌++◌, flat_map}
use Rattle.std.specs.List.{list_all}

-- bytes
abbrev pub Text : Type 0
Text = List ℕ

-- a number below 256
abbrev pub is_byte : ℕ → Bool
is_byte b = nat_lt b 256

-- each is a byte
abbrev pub AreBytes : Text → Type 0
AreBytes s = list_all is_byte s ≡ true

-- from a space to `~`
abbrev pub is_printable : ℕ → Bool
is_printable b = nat_le 32 b && nat_le b 126

-- a byte that may stand in a value without quotes: no space, quote, `=` or backslash
abbrev pub is_bare : ℕ → Bool
is_bare b = (b == 33) || (nat_le 35 b && nat_le b 60) || (nat_le 62 b && nat_le b 91)
    || (nat_le 93 b && nat_le b 126)

-- a hexadecimal digit, in lower case
abbrev pub hex_digit : ℕ → ℕ
hex_digit n = if nat_lt n 10 then 48 + n else 87 + n

-- a byte in quotes: a quote or a backslash behind a backslash, others that aren't printable by
-- their number
abbrev pub escaped : ℕ → Text
escaped b = if b == 34 || b == 92 then 92 ∷ b ∷ []
    else (if is_printable b then b ∷ []
    else 92 ∷ 117 ∷ 48 ∷ 48 ∷ hex_digit (b / 16) ∷ hex_digit (b % 16) ∷ [])

-- a text in quotes
abbrev pub quoted : Text → Text
quoted s = 34 ∷ flat_map escaped s ++ 34 ∷ []

-- a text that needs no quotes: some bytes, each of which may stand bare
abbrev pub is_bare_text : Text → Bool
is_bare_text [] = false
is_bare_text (b ∷ s) = list_all is_bare (b ∷ s)

-- a value: as it is, or in quotes
abbrev pub value_text : Text → Text
value_text s = if is_bare_text s then s else quoted s
