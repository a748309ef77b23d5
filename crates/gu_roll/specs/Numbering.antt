-- Entries of some numbers, with numbers from 1 on.
use Rattle.std.specs.Prelude.{◌≡◌, ℕ, ◌+◌, ◌-◌, ◌≤◌, ◌==◌, if◌then◌else◌, List, [], ◌∷◌, Option}
use Rattle.std.specs.Prelude.{Some, None, option_map, slice_get}
use Rattle.std.specs.List.{Contains}
use Rattle.gu_base.specs.Answers.{entry_of}
use Rattle.gu_base.specs.declared.entry.Entry.{Entry}
use Rattle.gu_base.specs.declared.entry.Record.{Record}
use Rattle.gu_lives.specs.Renumbered.{mapped_command, mapped_record, entry_in}

-- how many numbers stand before this one; one that isn't among them goes behind them all
abbrev pub place_among : List ℕ → ℕ → ℕ
place_among [] n = n
place_among (m ∷ numbers) n = if m == n then 0 else place_among numbers n + 1

-- the new number that is looked up; where there is none, the old one
abbrev pub found_or : ℕ → Option (Option ℕ) → ℕ
found_or n (Some (Some new)) = new
found_or n (Some None) = n
found_or n None = n

-- the new number of an old one, which stands at the old one's place
abbrev pub new_in : List (Option ℕ) → ℕ → ℕ
new_in table n = found_or n (slice_get table (n - 1))

-- of each of these numbers that is no larger than this, the table has the place, counted from 1
abbrev pub IsTableOf : List ℕ → ℕ → List (Option ℕ) → Type 0
IsTableOf numbers most table = (n : ℕ) → Contains numbers n → 1 ≤ n → n ≤ most
    → new_in table n ≡ place_among numbers n + 1

-- an entry whose command names entries by their other numbers
abbrev pub renamed_entry : (ℕ → ℕ) → Entry → Entry
renamed_entry f e = record {
  firm = e.firm;
  id = e.id;
  command = mapped_command f e.command;
  status = e.status;
}

-- the entry of this number, whose command names entries by their other numbers
abbrev pub entry_at_number : (ℕ → ℕ) → List Entry → ℕ → Option Entry
entry_at_number f h n = option_map (λ r. entry_in (mapped_record f r)) (entry_of h n)

-- each change of the list is the entry that has its number
abbrev pub AreOf : List Entry → List Record → Type 0
AreOf h l = (r : Record) → Contains l r → entry_of h r.number ≡ Some r
