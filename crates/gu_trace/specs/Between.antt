-- What a connection's readings have looked at and told nothing of.
use Rattle.std.specs.Prelude.{◌≡◌, ◌<◌, ◌≤◌, ℕ, false, nat_lt, if◌then◌else◌, List, [], ◌∷◌, ◌++◌}
use Rattle.std.specs.Prelude.{length, map}
use Rattle.gu_base.specs.House.{House}
use Rattle.gu_base.specs.Runs.{IsRunFrom}
use Rattle.gu_base.specs.declared.entry.Entry.{Entry}
use Rattle.gu_base.specs.declared.report.Report.{Report}
use Rattle.gu_trace.specs.Concerns.{concerns}
use Rattle.gu_trace.specs.Reports.{most_reports, reports_for}

-- the last of these numbers, or the one before where there are none
abbrev pub last_number : ℕ → List ℕ → ℕ
last_number before [] = before
last_number before (n ∷ ns) = last_number n ns

-- the number of the last report, or the one before where there are none
abbrev pub last_told : ℕ → List Report → ℕ
last_told before told = last_number before (map (λ (p : Report). p.number) told)

-- the entry up to which a reading above `after` has looked in a history of this length: the last of
-- all, or, where the reading is full, the last that it tells of
abbrev pub looked_to : ℕ → ℕ → List Report → ℕ
looked_to after long told = if nat_lt (length told) most_reports then long else last_told after told

-- no entry numbered above `low`, up to `high`, concerns the firm
abbrev pub NoneBetween : List ℕ → List Entry → List ℕ → ℕ → ℕ → Type 0
NoneBetween house h f low high =
    (before behind : List Entry) (e : Entry) → h ≡ before ++ e ∷ behind → low ≤ length before
    → length before < high → concerns house h f e.firm e.command ≡ false

-- a connection of the firm that was sent its last report of the entry `sent` has looked up to the
-- entry `looked`: none between concerns the firm
pub record HasLooked (house : List ℕ) (h : List Entry) (f : List ℕ) (sent looked : ℕ) : Type 0 where
  pub above : sent ≤ looked
  pub within : looked ≤ length h
  pub none : NoneBetween house h f sent looked

-- each history goes on from the one before, by accepted calls
abbrev pub Grow : House → List Entry → List (List Entry) → Type 0
Grow t h [] = Unit {0}
Grow t h (g ∷ gs) = IsRunFrom t h g × Grow t g gs

-- what the readings of a connection tell at these histories, where each asks above the last report
-- that was sent
abbrev pub told_above_sent : List ℕ → List ℕ → ℕ → List (List Entry) → List (List Report)
told_above_sent house f sent [] = []
told_above_sent house f sent (h ∷ hs) =
    let told = reports_for house h f sent in told ∷ told_above_sent house f (last_told sent told) hs

-- and where each asks above the entry up to which was looked
abbrev pub told_above_looked : List ℕ → List ℕ → ℕ → List (List Entry) → List (List Report)
told_above_looked house f looked [] = []
told_above_looked house f looked (h ∷ hs) =
    let told = reports_for house h f looked in
    told ∷ told_above_looked house f (looked_to looked (length h) told) hs
