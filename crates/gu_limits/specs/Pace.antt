-- Until when a firm has had its rate.
use Rattle.std.specs.Prelude.{ℕ, ◌+◌, ◌-◌, ◌*◌, ◌/◌, ◌^◌, nat_lt, max, min, Bool}

-- how many nanoseconds a second has
abbrev pub second : ℕ
second = 1_000_000_000

-- how far ahead of the clock a firm may be: an eighth of a second
abbrev pub most_ahead : ℕ
most_ahead = 125_000_000

-- a firm that has had its rate until a moment has no more now
abbrev pub is_ahead : ℕ → ℕ → Bool
is_ahead until now = nat_lt most_ahead (until - now)

-- until when it has had its rate, once so many messages more are counted now
abbrev pub counted : ℕ → ℕ → ℕ → ℕ → ℕ
counted until now rate count =
    min (2 ^ 64 - 1)
    (max until now + min (2 ^ 64 - 1) (count * (second / max rate 1)))
