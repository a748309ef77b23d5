-- What an answer adds to a share, and to the history.
use Rattle.std.specs.Prelude.{◌≡◌, ℕ, List, [], ◌∷◌, ◌++◌, Result, Ok, Err}
use Rattle.gu_base.specs.declared.entry.Answer.{Answer}
use Rattle.gu_base.specs.declared.entry.Answer.TheVariants.{Accepted, Repeated, Refused}
use Rattle.gu_base.specs.declared.entry.Entry.{Entry}

-- one for an accepted call, and nothing else
abbrev pub gained : {E : Type 0} → Result Answer E → ℕ
gained (Ok (Accepted _ _)) = 1
gained (Ok (Repeated _ _)) = 0
gained (Ok (Refused _)) = 0
gained (Err _) = 0

-- one record more
abbrev pub GainsOne : List Entry → List Entry → Type 0
GainsOne old new = (e : Entry) × (new ≡ old ++ e ∷ [])

-- one record more for an accepted call, and nothing else
abbrev pub Gains : {E : Type 0} → Result Answer E → List Entry → List Entry → Type 0
Gains (Ok (Accepted _ _)) old new = GainsOne old new
Gains (Ok (Repeated _ _)) old new = new ≡ old
Gains (Ok (Refused _)) old new = new ≡ old
Gains (Err _) old new = new ≡ old
