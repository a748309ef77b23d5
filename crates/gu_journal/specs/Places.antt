-- Where a recovery tells what is wrong with a file, and why.
use Rattle.std.specs.Prelude.{◌≡◌, ℕ, ◌+◌, Bool, IsTrue, List, ◌++◌, length}
use Rattle.gu_base.specs.House.{House}
use Rattle.gu_base.specs.declared.entry.Entry.{Entry}
use Rattle.gu_store.specs.Zeros.{counted}
use Rattle.gu_journal.specs.Damages.{IsReason}
use Rattle.gu_journal.specs.Taking.{IsTaken, IsTold}
use Rattle.gu_journal.specs.declared.damage.RecoverError.{RecoverError}
use Rattle.gu_journal.specs.declared.damage.RecoverError.TheVariants as error
use Rattle.gu_journal.specs.declared.replay.Stand.{Stand}

-- damage is told at this byte, where the entry with this number was to come
abbrev pub IsAt : ℕ → ℕ → RecoverError → Type 0
IsAt at entry error.Memory = Unit {0}
IsAt at entry error.Moment = Unit {0}
IsAt at entry error.Full = Unit {0}
IsAt at entry (error.Disk e) = Unit {0}
IsAt at entry (error.OtherHouse file journal) = Unit {0}
IsAt at entry error.OtherForm = Unit {0}
IsAt at entry (error.Damaged d) = (d.at ≡ at) × (d.entry ≡ entry)

-- What is told of a file is told of what stands in it, up to its first zero, behind bytes that were
-- taken as those of a journal, of one with a group that isn't sealed yet, or of none; and of what
-- stands from that zero on. They are at the front of the file, where the disk has given no wrong
-- answer. The entry is the next one after those that they say.
pub record IsToldOf (is_clean : Bool) (file : List ℕ) (t : House) (pin : List ℕ) (e : RecoverError)
    : Type 0 where
  pub taken : List ℕ
  pub stand : Stand
  pub h : List Entry
  pub stands : IsTaken t pin taken stand h
  pub place : IsAt (length taken) (length h + 1) e
  pub reason : IsTrue is_clean
      → (rest behind : List ℕ) × (counted file ≡ taken ++ rest)
      × (file ≡ counted file ++ behind) × IsReason t pin taken stand h rest behind e

-- what is told is told where it is, and why
abbrev pub NamesCause : Bool → List ℕ → House → List ℕ → RecoverError → Type 0
NamesCause is_clean file t pin e = IsTold e → IsToldOf is_clean file t pin e
