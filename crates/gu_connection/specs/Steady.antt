-- A clock that doesn't jump, in nanoseconds.
use Rattle.std.specs.Prelude.{ℕ, ◌+◌, ◌-◌, ◌/◌, min, max, Option, Some, None}
use Rattle.gu_connection.specs.declared.steady.Read.{Read}

-- the moment behind another one, so many nanoseconds later, where the wall clock tells this: that
-- one, as far as it is a tenth of what has passed away at the most
abbrev pub drawn : ℕ → ℕ → ℕ → ℕ
drawn before passed wall =
    max (before + passed - passed / 10) (min wall (before + passed + passed / 10))

-- by how much it was off at its last reading
abbrev pub off : Option Read → ℕ
off None = 0
off (Some r) = (r.wall - r.moment) + (r.moment - r.wall)

-- by how many nanoseconds it may be off, for a session that goes on: a minute
abbrev pub most_off : ℕ
most_off = 60_000_000_000
