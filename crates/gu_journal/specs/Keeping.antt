-- What a `Journal` keeps.
use Rattle.std.specs.Prelude.{◌≡◌, ℕ, ◌+◌, List, length}
use Rattle.gu_base.specs.House.{House}
use Rattle.gu_base.specs.declared.entry.Entry.{Entry}
use Rattle.gu_store.specs.Store as store
use Rattle.gu_store.specs.Store.{IsAtRest}
use Rattle.sha2.specs.Hashers.{Holds512}
use Rattle.gu_journal.specs.Journal.{IsJournal}
use Rattle.gu_journal.specs.declared.journal.Journal.{Journal}

-- the disk of its file
abbrev pub disk_of : {D : Type 0} → Journal D → D
disk_of journal = store.disk_of journal.store

-- All of the file is on the disk. What counts of it is a journal of this house with this history,
-- whose next entry has the next number. The hasher holds what counts.
pub record Keeps {D : Type 0} (seen : D → List ℕ) (may_leave : D → List ℕ → Type 0)
    (t : House) (pin : List ℕ) (h : List Entry) (journal : Journal D) : Type 0 where
  pub bytes : List ℕ
  pub file : IsAtRest seen may_leave journal.store bytes
  pub is_journal : IsJournal t pin bytes h
  pub house : journal.house ≡ t.house
  pub next : journal.next ≡ length h + 1
  pub hashed : Holds512 journal.hasher bytes
