-- What a start answers of a file, and what a crash has to leave for it.
use Rattle.std.specs.Prelude.{◌≡◌, ◌⊎◌, ℕ, List, ◌++◌}
use Rattle.gu_base.specs.House.{House}
use Rattle.gu_base.specs.Runs.{opening_history}
use Rattle.gu_base.specs.declared.entry.Entry.{Entry}
use Rattle.gu_store.specs.Store.{StillHas}
use Rattle.gu_store.specs.Zeros.{counted, HasZero}
use Rattle.gu_journal.specs.Journal.{IsJournal}

-- before its first zero the file begins with a journal that has this history
abbrev pub Stands : House → List ℕ → List ℕ → List Entry → Type 0
Stands t pin file h = (bytes : List ℕ) × IsJournal t pin bytes h × StillHas bytes (counted file)

-- the bytes begin with each journal that stands in the file
abbrev pub HasAll : House → List ℕ → List ℕ → List ℕ → Type 0
HasAll t pin bytes file = (other : List ℕ) (k : List Entry) → IsJournal t pin other k
    → StillHas other (counted file) → StillHas other bytes

-- the first history begins with the other
abbrev pub BeginsBy : List Entry → List Entry → Type 0
BeginsBy h k = (rest : List Entry) × (h ≡ k ++ rest)

-- What a start answers: the history of a journal that stands in the file, or the opening one, and
-- it begins with that of each journal that stands there. None of another house file does.
pub record Recovers (t : House) (pin file : List ℕ) (h : List Entry) : Type 0 where
  pub there : Stands t pin file h ⊎ (h ≡ opening_history t)
  pub longest : (k : List Entry) → Stands t pin file k → BeginsBy h k
  pub alone : (other : List ℕ) (k : List Entry) → Stands t other file k → Stands t pin file k

-- There is a zero in the file, and what stands before the first one is a journal's front, and has a
-- journal: a start has no fault to find with that.
pub record IsPart (t : House) (pin file : List ℕ) : Type 0 where
  pub zero : HasZero file
  pub bytes : List ℕ
  pub h : List Entry
  pub journal : IsJournal t pin bytes h
  pub begins : StillHas (counted file) bytes
  pub stands : (k : List Entry) × Stands t pin file k

-- Of both files a start answers the same; and where it finds no fault with what the first has
-- before its first zero, it finds none with what the other has.
pub record StartsAlike (t : House) (pin file other : List ℕ) : Type 0 where
  pub answer : (h : List Entry) → Recovers t pin file h → Recovers t pin other h
  pub part : IsPart t pin file → IsPart t pin other
