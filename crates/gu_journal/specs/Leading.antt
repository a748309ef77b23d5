-- A file that isn't what a crash leaves of a journal.
use Rattle.std.specs.Prelude.{List, ℕ}
use Rattle.gu_base.specs.House.{House}
use Rattle.gu_journal.specs.Counting.{IsPart}

-- what stands in the file before its first zero is no front of a journal of this house, or there is
-- no zero
abbrev pub HasNoFront : House → List ℕ → List ℕ → Type 0
HasNoFront t pin file = IsPart t pin file → ⊥
