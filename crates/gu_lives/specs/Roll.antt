-- A new book with what is kept of the live changes of an old one.
use Rattle.std.specs.Prelude.{◌≡◌, ℕ, ◌≤◌, Bool, false, List, filter, length}
use Rattle.gu_base.specs.Limits.{most_entries}
use Rattle.gu_base.specs.House.{House, HasLawfulOpening}
use Rattle.gu_base.specs.History.{live, is_reversed}
use Rattle.gu_base.specs.Runs.{IsRunFrom, opening_history}
use Rattle.gu_base.specs.declared.entry.Entry.{Entry}
use Rattle.gu_base.specs.declared.entry.Record.{Record}
use Rattle.gu_lives.specs.Renumbered.{renumbered, rolled, new_number, IsSameMapped}

-- a history that can be rolled: one of a run under a lawful house, no more than a book may have, of
-- which no agreement of the opening was reversed
pub record CanRoll (t : House) (h : List Entry) : Type 0 where
  pub lawful : HasLawfulOpening t
  pub small : length t.opening ≤ most_entries
  pub run : IsRunFrom t (opening_history t) h
  pub few : length h ≤ most_entries
  pub unreversed : (n : ℕ) → 1 ≤ n → n ≤ length (opening_history t) → is_reversed h n ≡ false

-- the changes that are kept
abbrev pub kept : (Record → Bool) → List Entry → List Record
kept keep h = filter keep (live h)

-- the new book is one of a run under the new house, its live changes are those that were kept, with
-- their new numbers, and it tells what they told
pub record IsRolled (u : House) (h : List Entry) (keep : Record → Bool) : Type 0 where
  pub run : IsRunFrom u (opening_history u) (rolled (kept keep h))
  pub live_is : live (rolled (kept keep h)) ≡ renumbered (kept keep h)
  pub same : IsSameMapped u (new_number (kept keep h)) (kept keep h) (renumbered (kept keep h))
