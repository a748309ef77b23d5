-- The lines of Prometheus' text.
use Rattle.std.specs.Prelude.{ℕ, ◌+◌, ◌/◌, ◌%◌, ◌==◌, ◌||◌, if◌then◌else◌, List, [], ◌∷◌, ◌++◌}
use Rattle.std.specs.Prelude.{codes, decimal, flat_map}

-- bytes
abbrev pub Text : Type 0
Text = List ℕ

-- a line about a family: what it is about, the name, and the words
unfoldable pub comment : Text → Text → Text → Text
comment about name words = about ++ name ++ codes " " ++ words ++ 10 ∷ []

-- the two lines before the samples of a family
unfoldable pub family : Text → Text → Text → Text
family name kind help = comment (codes "# HELP ") name help ++ comment (codes "# TYPE ") name kind

-- a number behind a space, and the line's end
unfoldable pub decimal_line : ℕ → Text
decimal_line n = codes " " ++ decimal n ++ 10 ∷ []

-- the last decimal digit
abbrev pub last_digit : ℕ → ℕ
last_digit n = 48 + n % 10

-- so many millionths, as wholes and six digits
unfoldable pub millionths : ℕ → Text
millionths n = let part = n % 1000000 in codes " " ++ decimal (n / 1000000)
    ++ 46 ∷ last_digit (part / 100000) ∷ last_digit (part / 10000) ∷ last_digit (part / 1000)
    ∷ last_digit (part / 100) ∷ last_digit (part / 10) ∷ last_digit part ∷ 10 ∷ []

-- a sample without a label
unfoldable pub sample : Text → ℕ → Text
sample name n = name ++ decimal_line n

-- a byte of a label's value
abbrev pub label_byte : ℕ → Text
label_byte b = if b == 34 || b == 92 then 92 ∷ b ∷ []
    else (if b == 10 then codes "\\n" else b ∷ [])

-- a label's value
abbrev pub label_text : Text → Text
label_text s = flat_map label_byte s

-- a sample with a label: what stands before its value, the value, and the number
unfoldable pub labelled : Text → Text → ℕ → Text
labelled front value n = front ++ label_text value ++ codes "\"}" ++ decimal_line n

-- a family with one sample
unfoldable pub single : Text → Text → Text → ℕ → Text
single name kind help n = family name kind help ++ sample name n
