-- When an operator is told of messages that lack.
use Rattle.std.specs.Prelude.{ℕ, ◌-◌, Bool, nat_le, if◌then◌else◌, Option, Some, None}
use Rattle.gu_status.specs.declared.gaps.SeenGap.{SeenGap}

-- a gap that is seen first in a second
abbrev pub new_gap : ℕ → ℕ → SeenGap
new_gap highest second = record { since = second; highest = highest; told = None }

-- what is seen of a gap whose first message has this number, where this was seen before: it is the
-- same gap, if some of what lacked then still lacks
abbrev pub seen_gap : Option SeenGap → ℕ → ℕ → ℕ → SeenGap
seen_gap None expected highest second = new_gap highest second
seen_gap (Some before) expected highest second =
    if nat_le expected before.highest then record before { highest = highest }
    else new_gap highest second

-- it is told once it has been open for 30 seconds, and again each five minutes
abbrev pub due_behind : ℕ → ℕ → Option ℕ → Bool
due_behind second since None = nat_le 30 (second - since)
due_behind second since (Some told) = nat_le 300 (second - told)

-- the same of what is seen
abbrev pub is_due : SeenGap → ℕ → Bool
is_due g second = due_behind second g.since g.told
