-- Whose statement is written, and of which book.
use Rattle.std.specs.Prelude.{◌≡◌, ℕ, Bool, true, false, ◌&&◌, if◌then◌else◌, List, Option, Some}
use Rattle.std.specs.Prelude.{None, IfSome, Result, Ok, Err}
use Rattle.clap.specs.Words.{Text}
use Rattle.gu_base.specs.House.{House, knows_firm}
use Rattle.gu_base.specs.Names.{is_firm_text}
use Rattle.gu_base.specs.declared.entry.Entry.{Entry}
use Rattle.gu_batch.specs.Runs.{Told}
use Rattle.gu_batch.specs.declared.batch.RunError.TheVariants.{Memory}
use Rattle.gu_command.specs.declared.fault.Fault.{Fault}
use Rattle.gu_command.specs.declared.fault.Fault.TheVariants.{NoFirm, Journal, Keep, Run}
use Rattle.gu_journal.specs.Counting.{Recovers}
use Rattle.gu_journal.specs.Damages.{HasNoLater}

-- ---- whose it is

-- the house table has a firm of this name
abbrev pub is_known : House → Text → Bool
is_known t word = is_firm_text word && knows_firm t word

-- the firm that a word names, if the house table has it
abbrev pub known_firm : House → Text → Option Text
known_firm t word = if is_known t word then Some word else None

-- it has the firm that is asked for, if one is
abbrev pub AreKnown : House → Option Text → Type 0
AreKnown t whose = IfSome whose (λ f. is_known t f ≡ true)

-- why it isn't told whose statement is asked for: the house table lacks the firm, or memory ran out
abbrev pub IsUnknown : House → Option Text → Fault → Type 0
IsUnknown t whose (NoFirm text) =
    (whose ≡ Some text.bytes.items) × (is_known t text.bytes.items ≡ false)
IsUnknown t whose (Run Memory) = Unit {0}
IsUnknown t whose _ = ⊥

-- ---- of which book

-- the history of a book that a journal's file says, whose bytes are these where they are known, as
-- a start takes it
abbrev pub IsSaidIn : House → List ℕ → Option (List ℕ) → List Entry → Type 0
IsSaidIn t pin known h =
    (file : List ℕ) × IfSome known (λ bytes. file ≡ bytes) × Recovers t pin file h
    × HasNoLater t pin file h

-- who asks for the statement of the book behind a stream is told no other fault than a run's. What
-- was read and written this doesn't say.
abbrev pub StatesStream : {A : Type 0} → Result A Fault → Type 0
StatesStream (Ok x) = Unit {0}
StatesStream (Err (Run e)) = Unit {0}
StatesStream (Err _) = ⊥

-- the journal says such a book, or nothing was written, since it is at fault. What was written of
-- the book this doesn't say.
abbrev pub StatesJournal : {A : Type 0} → House → List ℕ → Option (List ℕ) → Option (List ℕ)
    → Option (List ℕ) → ℕ → ℕ → Result A Fault → Type 0
StatesJournal t pin known old new failed_before failed (Ok x) =
    (h : List Entry) × IsSaidIn t pin known h
StatesJournal t pin known old new failed_before failed (Err (Run e)) =
    (h : List Entry) × IsSaidIn t pin known h
StatesJournal t pin known old new failed_before failed (Err (Journal text)) =
    (new ≡ old) × (failed ≡ failed_before)
StatesJournal t pin known old new failed_before failed (Err (Keep e)) =
    (new ≡ old) × (failed ≡ failed_before)
StatesJournal t pin known old new failed_before failed (Err _) = ⊥

-- of the book behind what was read nothing is said; or a journal says a book, whose bytes are these
-- where they are known, and nothing was read
abbrev pub States : House → List ℕ → Option (Option (List ℕ)) → Told → Told → Type 0
States t pin None old new = Unit {0}
States t pin (Some known) old new =
    (new.left ≡ old.left) × (new.made ≡ old.made) × (new.reads_failed ≡ old.reads_failed)
    × ((h : List Entry) × IsSaidIn t pin known h)
