-- What a house file says: the table that its lines name, or the first line with a cause and its
-- first cause.
use Rattle.std.specs.Prelude.{ℕ, ◌-◌, Bool, false, nat_lt, List, [], ◌∷◌, Option, None, Some}
use Rattle.std.specs.Prelude.{Result, Ok, Err, option_map, take, drop, map, slice_get}
use Rattle.std.specs.Prelude.{if◌then◌else◌}
use Rattle.std.specs.List.{filter_map, enumerate_from, cons_option}
use Rattle.gu_base.specs.House.{House}
use Rattle.gu_parties.specs.Words.{words}
use Rattle.gu_parties.specs.Table.{table_of, is_opening, opened_if}
use Rattle.gu_parties.specs.Causes.{cause_of, house_cause, version_cause}
use Rattle.gu_parties.specs.declared.fault.Cause.{Cause}
use Rattle.gu_parties.specs.declared.fault.Cause.TheVariants.{TooManyLines}
use Rattle.gu_parties.specs.Limits.{most_lines}

-- the number of a line beside its cause, where it has one
abbrev pub at_line : ℕ → Option Cause → Option (ℕ × Cause)
at_line n cause = option_map (λ c. (n, c)) cause

-- the first cause of line n, which stands behind line 2, after the table of the lines before it
abbrev pub line_cause : ℕ → House → List (List ℕ) → Option Cause
line_cause n t line = if nat_lt most_lines n then Some TooManyLines else cause_of t line

-- each line from line 3 on that has a cause; the lines before line n are the first n - 3 of them
abbrev pub later_faults : List ℕ → List (List (List ℕ)) → List (ℕ × Cause)
later_faults house later =
    filter_map (λ e. at_line e.0 (line_cause e.0 (table_of house (take (e.0 - 3) later)) e.1))
    (enumerate_from 3 later)

-- the second word of line 2
abbrev pub second_word : Option (List (List ℕ)) → List ℕ
second_word (Some (w ∷ house ∷ rest)) = house
second_word _ = []

-- each line that has a cause, beside its first cause
abbrev pub faults_of : List (List ℕ) → List (ℕ × Cause)
faults_of ls =
    let second : Option (List (List ℕ)) = option_map words (slice_get ls 1) in
    cons_option (at_line 1 (version_cause (slice_get ls 0)))
    (cons_option (at_line 2 (house_cause second))
    (later_faults (second_word second) (map words (drop 2 ls))))

-- whether line 1 is that of version 2
abbrev pub is_second_version : Option (List ℕ) → Bool
is_second_version None = false
is_second_version (Some line) = is_opening line

-- the table of line 2 and the lines behind it, by the version in line 1
abbrev pub table_of_lines : List (List ℕ) → House
table_of_lines ls =
    opened_if (is_second_version (slice_get ls 0))
    (table_of (second_word (option_map words (slice_get ls 1))) (map words (drop 2 ls)))

-- the table, where there is no fault, and else the first fault
abbrev pub unless_faulty : List (ℕ × Cause) → House → Result House (ℕ × Cause)
unless_faulty [] t = Ok t
unless_faulty (fault ∷ _) t = Err fault

-- what the lines of a house file say
abbrev pub house_of_lines : List (List ℕ) → Result House (ℕ × Cause)
house_of_lines ls = unless_faulty (faults_of ls) (table_of_lines ls)
