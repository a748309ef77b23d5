-- What a new book is begun with, and what is said of it.
use Rattle.std.specs.Prelude.{ℕ, Bool, true, false, List, ◌∷◌, [], ◌++◌, Option, IfSome, ◌≡◌}
use Rattle.std.specs.Prelude.{Result, Ok, Err, codes, decimal, length, IsTrue}
use Rattle.std.specs.Io.KnownBytes.{Appends}
use Rattle.gu_base.specs.House.{House}
use Rattle.gu_batch.specs.Counts.{Fails}
use Rattle.gu_batch.specs.declared.batch.RunError.{RunError}
use Rattle.gu_batch.specs.declared.batch.RunError.TheVariants.{Write}
use Rattle.gu_command.specs.Faults.{is_keep_fault}
use Rattle.gu_command.specs.declared.fault.Fault.{Fault}
use Rattle.gu_command.specs.declared.fault.Fault.TheVariants.{Run}
use Rattle.gu_roll.specs.Rolled.{IsRolledInto}
use Rattle.gu_roll.specs.declared.keep.Keep.{Keep}
use Rattle.gu_roll.specs.declared.keep.Keep.TheVariants.{All, Open}
use Rattle.gu_roll.specs.declared.lost.Lost.{Lost}

-- which live changes are kept: all, or those of trades with a part that waits and of no trade
abbrev pub keep_meant : Bool → Keep
keep_meant true = Open
keep_meant false = All

-- the line of a new book whose entries had these numbers, and which lacks so much of the old one
abbrev pub rolled_line : List ℕ → Lost → List ℕ
rolled_line numbers lost =
    codes "entries " ++ decimal (length numbers) ++ codes " reversed " ++ decimal lost.reversed
    ++ codes " closed " ++ decimal lost.closed ++ codes " consented " ++ decimal lost.consented
    ++ 10 ∷ []

-- these bytes are the journal of a new book under the second house, of what is kept of the live
-- changes that a file says under the first one, whose bytes are these where they are known
abbrev pub IsNewBook : House → House → List ℕ → List ℕ → Option (List ℕ) → Keep → Lost → List ℕ
    → List ℕ → Type 0
IsNewBook t u pin new_pin known keep lost numbers new =
    (file : List ℕ) × IfSome known (λ bytes. file ≡ bytes)
    × IsRolledInto t u pin new_pin file keep lost numbers new

-- such a journal was written whole, and this is its line
abbrev pub HasRolled : House → House → List ℕ → List ℕ → Option (List ℕ) → Keep
    → (List ℕ → Type 0) → List ℕ → Type 0
HasRolled t u pin new_pin known keep is_copied line =
    (numbers new : List ℕ) × (lost : Lost) × IsNewBook t u pin new_pin known keep lost numbers new
    × is_copied new × (line ≡ rolled_line numbers lost)

-- that was written, which is right for this result: the line, or a front of it where the writer
-- failed
abbrev pub IsLineTold : {A : Type 0} → List ℕ → ℕ → ℕ → List ℕ → Result A RunError → Type 0
IsLineTold line failed_before failed out (Ok x) = out ≡ line
IsLineTold line failed_before failed out (Err Write) =
    Fails failed_before failed × (rest : List ℕ) × (out ++ rest ≡ line)
IsLineTold line failed_before failed out (Err _) = ⊥

-- a new book was begun, and that was said of it
pub record Begins {A : Type 0} (t u : House) (pin new_pin : List ℕ) (known : Option (List ℕ))
    (keep : Keep) (is_copied : List ℕ → Type 0) (old new : Option (List ℕ))
    (failed_before failed : ℕ) (result : Result A RunError) : Type 0 where
  pub line : List ℕ
  pub rolled : HasRolled t u pin new_pin known keep is_copied line
  pub out : List ℕ
  pub appended : Appends old new out
  pub told : IsLineTold line failed_before failed out result

-- the same where more can go wrong: nothing is said then
abbrev pub Rolls : {A : Type 0} → House → House → List ℕ → List ℕ → Option (List ℕ) → Keep
    → (List ℕ → Type 0) → Option (List ℕ) → Option (List ℕ) → ℕ → ℕ → Result A Fault → Type 0
Rolls {A} t u pin new_pin known keep is_copied old new failed_before failed (Ok x) =
    Begins {A = A} t u pin new_pin known keep is_copied old new failed_before failed (Ok x)
Rolls {A} t u pin new_pin known keep is_copied old new failed_before failed (Err (Run e)) =
    Begins {A = A} t u pin new_pin known keep is_copied old new failed_before failed (Err e)
Rolls t u pin new_pin known keep is_copied old new failed_before failed (Err e) =
    (new ≡ old) × (failed ≡ failed_before) × IsTrue (is_keep_fault e)
