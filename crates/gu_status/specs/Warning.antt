-- When an operator is warned.
use Rattle.std.specs.Prelude.{ℕ, ◌*◌, Bool, ◌&&◌, nat_le, nat_lt, if◌then◌else◌, Option, Some, None}

-- a count was below so many percent of the most that it may be, and isn't any more
abbrev pub crosses : ℕ → ℕ → ℕ → ℕ → Bool
crosses percent before after most =
    nat_lt (before * 100) (most * percent) && nat_le (most * percent) (after * 100)

-- the higher of the marks that it has passed
abbrev pub mark_passed : ℕ → ℕ → ℕ → Option ℕ
mark_passed before after most = if crosses 90 before after most then Some 90
    else (if crosses 80 before after most then Some 80 else None)
