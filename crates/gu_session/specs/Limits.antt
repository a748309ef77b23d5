-- The limits of a session.
use Rattle.std.specs.Prelude.{ℕ}

-- the last number that a message may have
abbrev pub last_number : ℕ
last_number = 999999999

-- the number that is next to be sent behind the last one
abbrev pub past_last : ℕ
past_last = 1000000000

-- how many messages are kept to be sent again
abbrev pub most_kept : ℕ
most_kept = 256
