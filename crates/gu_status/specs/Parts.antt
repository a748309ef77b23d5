-- Which part of a server stands still.
use Rattle.std.specs.Prelude.{ℕ, ◌+◌, ◌-◌, Bool, false, nat_le, if◌then◌else◌, List, [], ◌∷◌}
use Rattle.std.specs.Prelude.{Option, Some, None, option_map}
use Rattle.std.specs.Option.{option_map_or}
use Rattle.gu_status.specs.declared.parts.Part.{Part}
use Rattle.gu_status.specs.declared.parts.Part.TheVariants.{Journal, Acceptor, Worker}
use Rattle.gu_status.specs.declared.parts.Pulses.{Pulses}

-- so many seconds are over since a moment
abbrev pub is_late : ℕ → ℕ → ℕ → Bool
is_late now most at = nat_le most (now - at)

-- the first worker that is late, where the first of them has this number
abbrev pub first_late : ℕ → ℕ → ℕ → List ℕ → Option ℕ
first_late now most n [] = None
first_late now most n (at ∷ ats) =
    if is_late now most at then Some n else first_late now most (n + 1) ats

-- the first part that hasn't moved for so many seconds: the journal's lock is one while it is held
abbrev pub first_stuck : ℕ → ℕ → Pulses → Option Part
first_stuck now most p = if option_map_or (is_late now most) p.journal false then Some Journal
    else (if is_late now most p.acceptor then Some Acceptor
    else option_map Worker (first_late now most 0 p.workers.now))
