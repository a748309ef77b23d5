-- What follows of what kind of change a command names.
use Rattle.std.specs.Prelude.{◌≡◌, ◌≤◌, ℕ, List, take, Option, None, Result, Ok, Err, IsSomeAnd}
use Rattle.gu_base.specs.Consents.{parties_of}
use Rattle.gu_base.specs.History.{live}
use Rattle.gu_base.specs.House.{House}
use Rattle.gu_base.specs.declared.command.Command.{Command}
use Rattle.gu_base.specs.declared.command.Command.TheVariants.{Initiate, Decline, Reverse}
use Rattle.gu_base.specs.declared.entry.Entry.{Entry}
use Rattle.gu_base.specs.declared.entry.Record.{Record}
use Rattle.gu_base.specs.declared.refusal.Refusal.{Refusal}
use Rattle.gu_book.specs.Live.{IsLiveAt, IsRefusedAt}
use Rattle.gu_book.specs.Visits.{parts_in}
use Rattle.gu_book.specs.declared.undo.Undo.{Undo}

-- the parties of this change, and how many parts it makes
pub record IsOfKind (t : House) (l : List Record) (by : List ℕ) (c : Command) (u : Undo) : Type 0
  where
    pub parties : take u.parties.1 u.parties.0 ≡ parties_of t l by c
    pub few : u.parties.1 ≤ 3
    pub parts : u.parts ≡ parts_in c

-- of the live change of this number
pub record IsUndoOf (t : House) (h : List Entry) (k : ℕ) (u : Undo) : Type 0 where
  pub change : Record
  pub at : IsLiveAt h k change
  pub kind : IsOfKind t (live h) change.firm change.command u

-- or why there is none
abbrev pub IsUndoOr : House → List Entry → ℕ → Result Undo Refusal → Type 0
IsUndoOr t h k (Ok u) = IsUndoOf t h k u
IsUndoOr t h k (Err e) = IsRefusedAt h k e

-- of the entry that a command names, if it names one
abbrev pub IsUndoIn : House → List Entry → Command → Option (Result Undo Refusal) → Type 0
IsUndoIn t h (Initiate k) o = IsSomeAnd o (IsUndoOr t h k)
IsUndoIn t h (Decline k) o = IsSomeAnd o (IsUndoOr t h k)
IsUndoIn t h (Reverse k) o = IsSomeAnd o (IsUndoOr t h k)
IsUndoIn t h c o = o ≡ None
