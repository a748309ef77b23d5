-- Legal lists of changes, and the first change that stands on another.
use Rattle.std.specs.Prelude.{◌≡◌, ℕ, not, ◌==◌, if◌then◌else◌, List, [], ◌∷◌, ◌++◌, filter, Option}
use Rattle.std.specs.Prelude.{Some, None, is_some}
use Rattle.gu_base.specs.House.{House}
use Rattle.gu_base.specs.Refusals.{refusal_of}
use Rattle.gu_base.specs.declared.entry.Record.{Record}

-- the number of the first of these changes that is refused, each after those before it
abbrev pub first_refused : House → List Record → List Record → Option ℕ
first_refused t before [] = None
first_refused t before (r ∷ rest) =
    if is_some (refusal_of t before r.firm r.command) then Some r.number
    else first_refused t (before ++ r ∷ []) rest

-- each change is accepted after those before it
pub record IsLegal (t : House) (l : List Record) : Type 0 where
  pub accepted : (before after : List Record) (r : Record) → l ≡ before ++ r ∷ after
      → refusal_of t before r.firm r.command ≡ None

-- the list without the change of this number
abbrev pub without : List Record → ℕ → List Record
without l k = filter (λ r. not (r.number == k)) l

-- the first change that would be refused if the change of this number were taken out
abbrev pub standing_on : House → List Record → ℕ → Option ℕ
standing_on t l k = first_refused t [] (without l k)
