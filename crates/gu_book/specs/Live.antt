-- The live changes, found by their numbers.
use Rattle.std.specs.Prelude.{◌≡◌, ◌≤◌, true, ℕ, List, length, Option, Some, None}
use Rattle.std.specs.Prelude.{Result, Ok, Err}
use Rattle.gu_base.specs.Answers.{entry_of, on_change, reversal_of}
use Rattle.gu_base.specs.History.{is_change, live, numbered_as}
use Rattle.gu_base.specs.House.{House}
use Rattle.gu_base.specs.Limits.{most_entries}
use Rattle.gu_base.specs.declared.entry.Entry.{Entry}
use Rattle.gu_base.specs.declared.entry.Record.{Record}
use Rattle.gu_base.specs.declared.refusal.Refusal.{Refusal}
use Rattle.gu_tree.specs.ShownAll.{change_of}
use Rattle.gu_book.specs.Lookups.{AreReversalsOf}
use Rattle.gu_book.specs.declared.lookups.Reversals.{Reversals}
use Rattle.gu_book.specs.declared.live.Change.{Change}

-- the entry
abbrev pub entry_of_change : Change → Entry
entry_of_change c =
    record { firm = c.firm.now; id = c.id.now; status = c.status; command = c.command.now }

-- the entry with its number
abbrev pub record_of : Change → Record
record_of c = numbered_as c.number (entry_of_change c)

-- the history is no longer than a book's, and its reversals can be looked up
pub record CanBeFound (h : List Entry) (rs : Reversals) : Type 0 where
  pub few : length h ≤ most_entries
  pub reversals : AreReversalsOf rs h

-- the entry of this number is this change, and no Reverse names it
pub record IsLiveAt (h : List Entry) (n : ℕ) (r : Record) : Type 0 where
  pub there : entry_of h n ≡ Some r
  pub number : r.number ≡ n
  pub change : is_change r.command ≡ true
  pub unreversed : reversal_of h n ≡ None

-- no live change has this number, and so whoever names it is refused, whatever for
pub record IsRefusedAt (h : List Entry) (n : ℕ) (e : Refusal) : Type 0 where
  pub none : change_of (live h) n ≡ None
  pub refused : (t : House) (by : List ℕ) (rest : Record → Option Refusal)
      → on_change t h by rest (entry_of h n) ≡ Some e

-- the live change of this number, or why there is none
abbrev pub IsLookedUp : List Entry → ℕ → Result Change Refusal → Type 0
IsLookedUp h n (Ok c) = IsLiveAt h n (record_of c)
IsLookedUp h n (Err e) = IsRefusedAt h n e
