-- A reading that fills up: what is told of the entries from a place on, as far as there is room.
use Rattle.std.specs.Prelude.{ℕ, ◌+◌, ◌-◌, List, ◌++◌, length, take, drop}
use Rattle.std.specs.Prelude.{slice_get, Option, option_and_then}
use Rattle.std.specs.List.{filter_map}
use Rattle.gu_base.specs.History.{numbered_as, records}
use Rattle.gu_base.specs.declared.entry.Entry.{Entry}
use Rattle.gu_base.specs.declared.report.Report.{Report}
use Rattle.gu_trace.specs.Reports.{most_reports, told}

-- what a firm is told of the entry at a place, counted from 0
abbrev pub told_at : List ℕ → List Entry → List ℕ → ℕ → Option Report
told_at house h f i = option_and_then (λ e. told house h f (numbered_as (i + 1) e)) (slice_get h i)

-- what it is told of the entries from a place on
abbrev pub told_from : List ℕ → List Entry → List ℕ → ℕ → List Report
told_from house h f i = filter_map (told house h f) (drop i (records h))

-- what it is told of the entries with these numbers
abbrev pub told_of_numbers : List ℕ → List Entry → List ℕ → List ℕ → List Report
told_of_numbers house h f ns = filter_map (λ n. told_at house h f (n - 1)) ns

-- the reports so far, with as many of the others as a reading still has room for
abbrev pub filled : List Report → List Report → List Report
filled found others = found ++ take (most_reports - length found) others
