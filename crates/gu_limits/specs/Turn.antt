-- How much a turn of a connection takes.
use Rattle.std.specs.Prelude.{ℕ, ◌-◌, nat_le, nat_lt, Bool, ◌||◌, ◌&&◌}

-- how many messages it takes at the most
abbrev pub most_messages : ℕ
most_messages = 64

-- a turn is over that has taken so many messages, the first one in any case, and these of its
-- microseconds
abbrev pub is_spent : ℕ → ℕ → ℕ → Bool
is_spent count used most =
    nat_le most_messages count || (nat_lt 0 count && nat_le most used)

-- for how many microseconds the connections of a firm take messages in a round
abbrev pub share : ℕ
share = 1_000

-- those that are left of them
abbrev pub share_left : ℕ → ℕ
share_left used = share - used
