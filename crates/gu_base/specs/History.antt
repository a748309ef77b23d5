-- The history, and the changes in it that are live.
use Rattle.std.specs.Prelude.{ℕ, ◌+◌, ◌≤◌, Bool, true, false, not, ◌&&◌, ◌==◌, List, [], ◌∷◌}
use Rattle.std.specs.Prelude.{filter}
use Rattle.std.specs.List.{list_any}
use Rattle.gu_base.specs.declared.command.Command.{Command}
use Rattle.gu_base.specs.declared.command.Command.TheVariants.{Trade, Split, Claim, Refuse, Cancel}
use Rattle.gu_base.specs.declared.command.Command.TheVariants.{Agree, Raise, Initiate, Decline}
use Rattle.gu_base.specs.declared.command.Command.TheVariants.{Reverse}
use Rattle.gu_base.specs.declared.entry.Entry.{Entry}
use Rattle.gu_base.specs.declared.entry.Record.{Record}

-- an entry with its number
abbrev pub numbered_as : ℕ → Entry → Record
numbered_as n e =
    record { number = n; firm = e.firm; id = e.id; command = e.command; status = e.status }

-- the entries with their numbers, from this number on
abbrev pub numbered_from : ℕ → List Entry → List Record
numbered_from n [] = []
numbered_from n (e ∷ es) = numbered_as n e ∷ numbered_from (n + 1) es

-- the records of a history: the k-th entry has the number k
abbrev pub records : List Entry → List Record
records h = numbered_from 1 h

-- whether a command changes trees, positions, fees or terms
abbrev pub is_change : Command → Bool
is_change (Trade _ _ _ _ _) = true
is_change (Split _ _) = true
is_change (Claim _ _) = true
is_change (Refuse _) = true
is_change (Cancel _) = true
is_change (Agree _ _ _ _) = true
is_change (Raise _ _) = true
is_change (Initiate _) = false
is_change (Decline _) = false
is_change (Reverse _) = false

-- whether a command reverses the entry of this number
abbrev pub is_reverse_of : ℕ → Command → Bool
is_reverse_of n (Reverse entry) = entry == n
is_reverse_of n _ = false

-- whether a Reverse in the history names the entry
abbrev pub is_reversed : List Entry → ℕ → Bool
is_reversed h n = list_any (λ e. is_reverse_of n e.command) h

-- the changes that no Reverse names, in order and with their numbers
abbrev pub live : List Entry → List Record
live h = filter (λ r. is_change r.command && not (is_reversed h r.number)) (records h)

-- the numbers of the records rise, from this one on
abbrev pub RisesFrom : ℕ → List Record → Type 0
RisesFrom n [] = Unit {0}
RisesFrom n (r ∷ rest) = (n ≤ r.number) × RisesFrom (r.number + 1) rest
