-- What `House::parse` answers.
use Rattle.std.specs.Prelude.{◌≡◌, ◌≤◌, ◌<◌, ℕ, Bool, nat_lt, List, ◌+◌, Result, Ok, Err, length}
use Rattle.std.specs.Prelude.{map, IsTrue}
use Rattle.std.specs.List.{list_all}
use Rattle.gu_base.specs.House.{House}
use Rattle.gu_parties.specs.Words.{words, lines}
use Rattle.gu_parties.specs.HouseFile.{faults_of, later_faults, house_of_lines, unless_faulty}
use Rattle.gu_parties.specs.Table.{table_of, opened_if}
use Rattle.gu_parties.specs.declared.fault.Cause.{Cause}
use Rattle.gu_parties.specs.declared.fault.Cause.TheVariants.{Memory}
use Rattle.gu_parties.specs.declared.fault.HouseError.{HouseError}

-- no line up to line n has a cause
abbrev pub IsCleanUpto : ℕ → List (ℕ × Cause) → Type 0
IsCleanUpto n faults = IsTrue (list_all (λ f. nat_lt n f.0) faults)

-- the first line with a cause; where memory was refused, a line of the text behind line 2 up to
-- which no line has a cause
abbrev pub Stops : Cause → ℕ → List (List ℕ) → Type 0
Stops Memory n ls = (2 < n) × (n ≤ length ls) × IsCleanUpto n (faults_of ls)
Stops cause n ls = house_of_lines ls ≡ Err (n, cause)

-- the table that the lines name, or where they stop
abbrev pub Gives : Result House HouseError → List (List ℕ) → Type 0
Gives (Ok t) ls = house_of_lines ls ≡ Ok t
Gives (Err e) ls = Stops e.cause e.line ls

-- what the text says; opaque, so that no caller's goal computes it
unfoldable pub Answers : Result House HouseError → List ℕ → Type 0
Answers result text = Gives result (lines text)

-- what the lines behind line 2 say, whose line 2 names this house, with each agreement fixed
abbrev pub house_behind : List ℕ → List (List ℕ) → Result House (ℕ × Cause)
house_behind house ls =
    unless_faulty (later_faults house (map words ls)) (table_of house (map words ls))

-- `Stops` of the lines behind line 2
abbrev pub StopsBehind : Cause → ℕ → List ℕ → List (List ℕ) → Type 0
StopsBehind Memory n house ls =
    (2 < n) × (n ≤ 2 + length ls) × IsCleanUpto n (later_faults house (map words ls))
StopsBehind cause n house ls = house_behind house ls ≡ Err (n, cause)

-- `Gives` of the lines behind line 2, by the version
abbrev pub GivesBehind : Bool → Result House HouseError → List ℕ → List (List ℕ) → Type 0
GivesBehind opens (Ok t) house ls =
    unless_faulty (later_faults house (map words ls))
    (opened_if opens (table_of house (map words ls)))
    ≡ Ok t
GivesBehind opens (Err e) house ls = StopsBehind e.cause e.line house ls
