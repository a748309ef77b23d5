-- What the journal of a new book is, and why there is none.
use Rattle.std.specs.Prelude.{◌≡◌, ℕ, List, map, Some}
use Rattle.gu_base.specs.House.{House}
use Rattle.gu_base.specs.declared.entry.Entry.{Entry}
use Rattle.gu_journal.specs.Counting.{Recovers, IsPart}
use Rattle.gu_journal.specs.Damages.{HasNoLater}
use Rattle.gu_lives.specs.Extends.{HasMore}
use Rattle.gu_lives.specs.Renumbered.{rolled}
use Rattle.gu_roll.specs.Carried.{carried}
use Rattle.gu_roll.specs.Extended.{IsRefusal, IsUnwritten}
use Rattle.gu_roll.specs.Lack.{first_apart, other_lack_of}
use Rattle.gu_roll.specs.Losing.{IsLost}
use Rattle.gu_roll.specs.Reopened.{begun_under, live_opening, IsUnlike}
use Rattle.gu_roll.specs.declared.error.ExtendError.{ExtendError}
use Rattle.gu_roll.specs.declared.error.ExtendError.TheVariants.{Lacks, Refused, Unbegun}
use Rattle.gu_roll.specs.declared.error.ExtendError.TheVariants.{Unwritten}
use Rattle.gu_roll.specs.declared.error.RollError.{RollError}
use Rattle.gu_roll.specs.declared.error.RollError.TheVariants.{Extend, OtherOpening, Unlike}
use Rattle.gu_roll.specs.declared.keep.Keep.{Keep}
use Rattle.gu_roll.specs.declared.lost.Lost.{Lost}

-- A new book's journal. The second house table has more than the first. A start from the first file
-- gives under the first table a history, and the second table's opening has the agreements of the
-- first one's that are live in that. A start from the second file gives under the second table the
-- opening, and behind it what is kept of the other live changes, with numbers from 1 on; and it
-- finds no fault there. All these had those numbers, in their order, and so much of the old book is
-- lost.
pub record IsRolledInto (t u : House) (pin new_pin file : List ℕ) (keep : Keep)
    (lost : Lost) (numbers new : List ℕ) : Type 0 where
  pub h : List Entry
  pub more : HasMore t u
  pub opens : u.opening ≡ live_opening t h
  pub recovers : Recovers t pin file h
  pub later : HasNoLater t pin file h
  pub again : Recovers u new_pin new (begun_under u (rolled (carried keep h)))
  pub part : IsPart u new_pin new
  pub had : numbers ≡ map (λ r. r.number) (carried keep h)
  pub lacks : IsLost keep h lost

-- A journal isn't rolled for this: what the new table lacks beside the opening, or what a start
-- from the file would end with. Of memory, and of what isn't written for the lack of it, nothing is
-- said.
abbrev pub IsOtherWhy : House → House → List ℕ → List ℕ → ExtendError → Type 0
IsOtherWhy t u pin file (Lacks lack) = other_lack_of t u ≡ Some lack
IsOtherWhy t u pin file (Refused e) = IsRefusal t pin file e
IsOtherWhy t u pin file (Unbegun e) = Unit {0}
IsOtherWhy t u pin file (Unwritten e) = Unit {0}

-- the same; or the agreement of this number of the new opening isn't the one at its place among
-- those of the old one that are live; or an entry isn't accepted again
abbrev pub IsRollWhy : House → House → List ℕ → List ℕ → Keep → RollError → Type 0
IsRollWhy t u pin file keep (OtherOpening n) =
    (h : List Entry) × Recovers t pin file h
    × (first_apart 1 u.opening (live_opening t h) ≡ Some n)
IsRollWhy t u pin file keep (Unlike n) =
    (h : List Entry) × Recovers t pin file h × IsUnlike u (rolled (carried keep h)) n
IsRollWhy t u pin file keep (Extend e) = IsOtherWhy t u pin file e

-- this is why nothing is carried from a history
abbrev pub IsUncarried : House → House → List Entry → RollError → Type 0
IsUncarried t u h (OtherOpening n) = first_apart 1 u.opening (live_opening t h) ≡ Some n
IsUncarried t u h (Unlike n) = ⊥
IsUncarried t u h (Extend e) = IsUnwritten e

-- and why the calls of some entries don't make a book
abbrev pub IsUnmade : House → List Entry → RollError → Type 0
IsUnmade u entries (OtherOpening n) = ⊥
IsUnmade u entries (Unlike n) = IsUnlike u entries n
IsUnmade u entries (Extend e) = IsUnwritten e

-- it wasn't written for the lack of memory, or of a moment
abbrev pub IsUnrolled : RollError → Type 0
IsUnrolled (OtherOpening n) = ⊥
IsUnrolled (Unlike n) = ⊥
IsUnrolled (Extend e) = IsUnwritten e

-- the new table lacks this beside the opening, or the old opening has no room in a book
abbrev pub IsOtherLack : House → House → RollError → Type 0
IsOtherLack t u (OtherOpening n) = ⊥
IsOtherLack t u (Unlike n) = ⊥
IsOtherLack t u (Extend (Lacks lack)) = other_lack_of t u ≡ Some lack
IsOtherLack t u (Extend (Refused e)) = ⊥
IsOtherLack t u (Extend (Unbegun e)) = ⊥
IsOtherLack t u (Extend (Unwritten e)) = Unit {0}
