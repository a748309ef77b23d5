-- A journal was written anew.
use Rattle.std.proofs.Common.{◌≡◌, ℕ, List, Option, refl, take, drop, take-append-drop}
use Rattle.std.proofs.lemmas.Bool.{false≢true}
use Rattle.std.specs.Prelude.{Result, Ok, Err, IfOk, OnOk, IsTrue}
use Rattle.std.specs.Io.KnownBytes.{Appends}
use Rattle.gu_base.specs.House.{House}
use Rattle.gu_batch.specs.Counts.{Fails}
use Rattle.gu_batch.specs.declared.batch.RunError.TheVariants.{Write}
use Rattle.gu_command.specs.Faults.{is_keep_fault}
use Rattle.gu_command.specs.declared.fault.Fault.{Fault}
use Rattle.gu_command.specs.declared.fault.Fault.TheVariants.{Usage, HouseFile, HouseLine, NoFirm, Service}
use Rattle.gu_command.specs.declared.fault.Fault.TheVariants.{Journal, Keep, Run}
use Rattle.gu_copies.specs.Extended.{IsExtension, IsWrittenAnew}
use Rattle.gu_copies.specs.Rolled.{IsNewBook, HasRolled, Rolls, rolled_line}
use Rattle.gu_roll.specs.declared.keep.Keep.{Keep as Kept}
use Rattle.gu_roll.specs.declared.lost.Lost.{Lost}

pub written_anew : {A E : Type 0} (r : Result A E) (t u : House) (pin new_pin : List ℕ) (known : Option (List ℕ))
    (is_copied : List ℕ → Type 0) (new : List ℕ) → IsExtension t u pin new_pin known new → is_copied new
    → OnOk r (IsWrittenAnew t u pin new_pin known is_copied)
written_anew (Ok x) t u pin new_pin known is_copied new extension copied = (new, extension, copied)
written_anew (Err e) t u pin new_pin known is_copied new extension copied = tt

-- a new book was begun, and this is its line
pub book_begun : {A E : Type 0} (items : A → List ℕ) (r : Result A E) (t u : House) (pin new_pin : List ℕ)
    (known : Option (List ℕ)) (keep : Kept) (is_copied : List ℕ → Type 0) (lost : Lost) (numbers new : List ℕ)
    → IsNewBook t u pin new_pin known keep lost numbers new → OnOk r (is_copied new)
    → IfOk r (λ a. items a ≡ rolled_line numbers lost)
    → IfOk r (λ a. HasRolled t u pin new_pin known keep is_copied (items a))
book_begun items (Ok a) t u pin new_pin known keep is_copied lost numbers new book copied is =
    (numbers, new, lost, book, copied, is)
book_begun items (Err e) t u pin new_pin known keep is_copied lost numbers new book copied is = tt

module _ (t u : House) (pin new_pin : List ℕ) (known : Option (List ℕ)) (keep : Kept) (is_copied : List ℕ → Type 0)
  where
    -- its line was written
    pub line_told : (old new : Option (List ℕ)) (failed_before failed : ℕ) (line : List ℕ)
        → HasRolled t u pin new_pin known keep is_copied line → Appends old new line
        → Rolls {A = Unit {0}} t u pin new_pin known keep is_copied old new failed_before failed (Ok tt)
    line_told old new failed_before failed line rolled appended =
        record { line = line; rolled = rolled; out = line; appended = appended; told = refl }

    -- a front of it was
    pub front_told : (old new : Option (List ℕ)) (failed_before failed : ℕ) (line : List ℕ) (n : ℕ)
        → HasRolled t u pin new_pin known keep is_copied line → Appends old new (take n line)
        → Fails failed_before failed
        → Rolls {A = Unit {0}} t u pin new_pin known keep is_copied old new failed_before failed (Err (Run Write))
    front_told old new failed_before failed line n rolled appended fails =
        record {
          line = line;
          rolled = rolled;
          out = take n line;
          appended = appended;
          told = (fails, drop n line, take-append-drop n line);
        }

    -- none was begun
    pub not_begun : (told : Option (List ℕ)) (failed : ℕ) (e : Fault) → IsTrue (is_keep_fault e)
        → Rolls {A = Unit {0}} t u pin new_pin known keep is_copied told told failed failed (Err e)
    not_begun told failed (Journal text) is = (refl, refl, is)
    not_begun told failed (Keep error) is = (refl, refl, is)
    not_begun told failed (Usage text) is = (refl, refl, is)
    not_begun told failed HouseFile is = (refl, refl, is)
    not_begun told failed (NoFirm text) is = (refl, refl, is)
    not_begun told failed (HouseLine error) is = (refl, refl, is)
    not_begun told failed (Service error) is = (refl, refl, is)
    not_begun told failed (Run error) is = absurd (false≢true is)
