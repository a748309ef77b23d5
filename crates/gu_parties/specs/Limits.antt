-- How large a house file and its numbers may be. The code has constants of its own, and what is
-- proved of it fails where one of them differs from these.
use Rattle.std.specs.Prelude.{ℕ}

-- the lines of a house file
abbrev pub most_lines : ℕ
most_lines = 100000

-- the digits of a rate or a limit
abbrev pub most_digits : ℕ
most_digits = 14
