-- What an extended journal is, and why there is none.
use Rattle.std.specs.Prelude.{◌≡◌, ℕ, true, List, Some}
use Rattle.gu_base.specs.House.{House}
use Rattle.gu_base.specs.declared.entry.Entry.{Entry}
use Rattle.gu_journal.specs.Counting.{Recovers, IsPart}
use Rattle.gu_journal.specs.Damages.{HasNoLater}
use Rattle.gu_journal.specs.Leading.{HasNoFront}
use Rattle.gu_journal.specs.Places.{NamesCause}
use Rattle.gu_journal.specs.Taking.{IsFault}
use Rattle.gu_journal.specs.declared.damage.RecoverError.{RecoverError}
use Rattle.gu_lives.specs.Extends.{Extends}
use Rattle.gu_roll.specs.Lack.{lack_of}
use Rattle.gu_roll.specs.declared.error.ExtendError.{ExtendError}
use Rattle.gu_roll.specs.declared.error.ExtendError.TheVariants.{Lacks, Refused, Unbegun}
use Rattle.gu_roll.specs.declared.error.ExtendError.TheVariants.{Unwritten}

-- The second house table extends the first. What a start from the first file gives under the first
-- table, one from the second file gives under the second, and it finds no fault there.
pub record IsExtended (t u : House) (pin new_pin file new : List ℕ) : Type 0 where
  pub h : List Entry
  pub extends : Extends t u
  pub recovers : Recovers t pin file h
  pub later : HasNoLater t pin file h
  pub again : Recovers u new_pin new h
  pub part : IsPart u new_pin new

-- a start from a file is refused by this, and what is told of its bytes holds of them
abbrev pub IsRefusal : House → List ℕ → List ℕ → RecoverError → Type 0
IsRefusal t pin file e = NamesCause true file t pin e × (IsFault e → HasNoFront t pin file)

-- A journal isn't extended for this: what the new table lacks, or what a start from the file would
-- end with. Of memory, and of what isn't written for the lack of it, nothing is said.
abbrev pub IsWhy : House → House → List ℕ → List ℕ → ExtendError → Type 0
IsWhy t u pin file (Lacks lack) = lack_of t u ≡ Some lack
IsWhy t u pin file (Refused e) = IsRefusal t pin file e
IsWhy t u pin file (Unbegun e) = Unit {0}
IsWhy t u pin file (Unwritten e) = Unit {0}

-- it wasn't written for the lack of memory, or of a moment
abbrev pub IsUnwritten : ExtendError → Type 0
IsUnwritten (Lacks lack) = ⊥
IsUnwritten (Refused e) = ⊥
IsUnwritten (Unbegun e) = Unit {0}
IsUnwritten (Unwritten e) = Unit {0}

-- the new table lacks this, or the opening has no room in a book
abbrev pub IsLack : House → House → ExtendError → Type 0
IsLack t u (Lacks lack) = lack_of t u ≡ Some lack
IsLack t u (Refused e) = ⊥
IsLack t u (Unbegun e) = ⊥
IsLack t u (Unwritten e) = Unit {0}
