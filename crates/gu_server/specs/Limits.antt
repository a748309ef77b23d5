-- How much is read of a house file. The code has constants of its own.
use Rattle.std.specs.Prelude.{ℕ}

-- the bytes of a house file: 16 MiB
abbrev pub most_bytes : ℕ
most_bytes = 16777216

-- the bytes that one read of a house file takes
abbrev pub longest_read : ℕ
longest_read = 4096
