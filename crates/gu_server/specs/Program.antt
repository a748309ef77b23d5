-- What the program does: which house file it reads, what it does to its reader and its writer, and
-- in which order faults are found.
use Rattle.std.specs.Prelude.{◌≡◌, ℕ, ◌⊎◌, false, codes, List, Option, Some, Result, Ok, Err}
use Rattle.std.specs.Prelude.{IsTrue, is_some, option_map}
use Rattle.clap.specs.Words.{Text}
use Rattle.gu_base.specs.House.{House}
use Rattle.gu_batch.specs.Runs.{Told, Runs}
use Rattle.gu_batch.specs.Traces.{Traces, WritesTotals}
use Rattle.gu_batch.specs.declared.batch.RunError.{RunError}
use Rattle.gu_batch.specs.declared.batch.RunError.TheVariants.{Memory}
use Rattle.gu_book.specs.Seen.{HouseAndHistory}
use Rattle.gu_parties.specs.Parsing.{Answers}
use Rattle.gu_parties.specs.declared.fault.HouseError.{HouseError}
use Rattle.gu_connection.specs.Serving.{IsServed}
use Rattle.gu_server.specs.HouseText.{IsTextOf, IsTooLong}
use Rattle.gu_server.specs.Stated.{is_known, AreKnown, States}
use Rattle.gu_command.specs.Lines.{command_in, house_in, journal_in, trade_in, trade_meant}
use Rattle.gu_command.specs.Lines.{totals_in, copy_in, larger_in, open_in, firm_in}
use Rattle.gu_command.specs.Flags.{flag_meant}
use Rattle.gu_copies.specs.Verified.{Says, Copies}
use Rattle.gu_copies.specs.Extended.{IsWrittenAnew}
use Rattle.gu_copies.specs.Rolled.{Begins, keep_meant}
use Rattle.sha2.specs.Sha256.{sha256}
use Rattle.gu_command.specs.declared.fault.Fault.{Fault}
use Rattle.gu_command.specs.declared.fault.Fault.TheVariants.{Usage, HouseFile, HouseLine, Service}
use Rattle.gu_command.specs.declared.fault.Fault.TheVariants.{NoFirm, Journal, Keep, Run}

-- the text of the file with these bytes names this house table, or has this fault
abbrev pub Names : Option (List ℕ) → Result House HouseError → Type 0
Names known named = (text : List ℕ) × IsTextOf known text × Answers named text

abbrev pub IsHouseFault : Option (List ℕ) → Fault → Type 0
IsHouseFault known HouseFile = IsTooLong known
IsHouseFault known (HouseLine error) = Names known (Err error)
IsHouseFault known (Run Memory) = Unit {0}
IsHouseFault known _ = ⊥

-- the house table of a file with these bytes, or why there is none
abbrev pub ReadsHouse : Option (List ℕ) → Result House Fault → Type 0
ReadsHouse known (Ok house) = Names known (Ok house)
ReadsHouse known (Err e) = IsHouseFault known e

-- this is the house table of a file with these bytes, and the digest of its text
abbrev pub IsPinnedAt : Option (List ℕ) → House → List ℕ → Type 0
IsPinnedAt known house pin = (named : Names known (Ok house)) × (pin ≡ sha256 named.0)

-- the words are those of this command, and the house file that they name has a house table
pub record Asks (command : Text) (words : List Text) (bytes_at : Text → Option (List ℕ))
    : Type 0 where
  pub path : Text
  pub is : command_in words ≡ Some command
  pub asked : house_in words ≡ Some path
  pub house : House
  pub named : Names (bytes_at path) (Ok house)

-- they ask for the statement of a journal's book
abbrev pub AsksForItsStatement : List Text → (Text → Option (List ℕ)) → Type 0
AsksForItsStatement words bytes_at =
    Asks (codes "statement") words bytes_at × IsTrue (is_some (journal_in words))

-- the words are those of a command that has a journal
abbrev pub AsksOfJournal : List Text → (Text → Option (List ℕ)) → Type 0
AsksOfJournal words bytes_at =
    Asks (codes "keep") words bytes_at ⊎ Asks (codes "verify") words bytes_at
    ⊎ (command_in words ≡ Some (codes "backup")) ⊎ Asks (codes "extend") words bytes_at
    ⊎ Asks (codes "roll") words bytes_at ⊎ AsksForItsStatement words bytes_at

-- the words ask for the statement of a firm that the house table lacks
pub record AsksForNoFirm (words : List Text) (bytes_at : Text → Option (List ℕ)) (firm : Text)
    : Type 0 where
  pub asks : Asks (codes "statement") words bytes_at
  pub named : firm_in words ≡ Some firm
  pub unknown : is_known asks.house firm ≡ false

-- why nothing was read and nothing written: the command line, the house file that it names, a firm
-- that this lacks, a journal, or the server
abbrev pub Stops : List Text → (Text → Option (List ℕ)) → Fault → Type 0
Stops words bytes_at (Usage text) = Unit {0}
Stops words bytes_at (Run Memory) = Unit {0}
Stops words bytes_at (Service error) = Asks (codes "serve") words bytes_at
Stops words bytes_at (NoFirm text) = AsksForNoFirm words bytes_at text.bytes.items
Stops words bytes_at (Journal text) = AsksOfJournal words bytes_at
Stops words bytes_at (Keep error) = AsksOfJournal words bytes_at
Stops words bytes_at e =
    (path : Text) × (house_in words ≡ Some path) × IsHouseFault (bytes_at path) e

-- a batch was run, by the house table that the house file of the words names
pub record HasRun {A : Type 0} (words : List Text) (bytes_at : Text → Option (List ℕ))
    (old new : Told) (result : Result A RunError) : Type 0 where
  pub asks : Asks (codes "batch") words bytes_at
  pub runs : Runs asks.house old new result

-- a trace was run, by the house table that the house file of the words names, for the trade that
-- they name
pub record HasTraced {A : Type 0} (words : List Text) (bytes_at : Text → Option (List ℕ))
    (old new : Told) (result : Result A RunError) : Type 0 where
  pub asks : Asks (codes "trace") words bytes_at
  pub trade : Option ℕ
  pub meant : trade_meant (trade_in words) ≡ Some trade
  pub traces : Traces asks.house trade old new result

-- ---- the server

-- a server ended without a book, and nothing was written, or the totals of its book were
abbrev pub Serves : {A : Type 0} → House → Option (List ℕ) → Option (List ℕ) → ℕ → ℕ
    → Result A Fault → Type 0
Serves {A} house old new failed_before failed (Ok x) =
    (book : HouseAndHistory) × IsServed house book
    × WritesTotals {A = A} book.house book.history old new failed_before failed (Ok x)
Serves {A} house old new failed_before failed (Err (Service error)) =
    (new ≡ old) × (failed ≡ failed_before)
Serves {A} house old new failed_before failed (Err (Run error)) =
    (book : HouseAndHistory) × IsServed house book
    × WritesTotals {A = A} book.house book.history old new failed_before failed (Err error)
Serves {A} house old new failed_before failed (Err _) = ⊥

-- connections were served, by the house table that the house file of the words names, and the
-- totals of the book behind them were written
pub record HasServed {A : Type 0} (words : List Text) (bytes_at : Text → Option (List ℕ))
    (old new : Told) (result : Result A RunError) : Type 0 where
  pub asks : Asks (codes "serve") words bytes_at
  pub book : HouseAndHistory
  pub served : IsServed asks.house book
  pub unread : (new.left ≡ old.left) × (new.made ≡ old.made) × (new.reads_failed ≡ old.reads_failed)
  pub totals : WritesTotals book.house book.history old.contents new.contents old.writes_failed
      new.writes_failed result

-- the same of a book that the journal of the words keeps
pub record HasKept {A : Type 0} (words : List Text) (bytes_at : Text → Option (List ℕ))
    (old new : Told) (result : Result A RunError) : Type 0 where
  pub asks : Asks (codes "keep") words bytes_at
  pub book : HouseAndHistory
  pub served : IsServed asks.house book
  pub unread : (new.left ≡ old.left) × (new.made ≡ old.made) × (new.reads_failed ≡ old.reads_failed)
  pub totals : WritesTotals book.house book.history old.contents new.contents old.writes_failed
      new.writes_failed result

-- ---- journals

-- the journal of the words was looked at, and what a start would say of it was written, by the
-- house table that the house file of the words names
pub record HasVerified {A : Type 0} (words : List Text)
    (bytes_at journal_at : Text → Option (List ℕ)) (old new : Told) (result : Result A RunError)
    : Type 0 where
  pub asks : Asks (codes "verify") words bytes_at
  pub journal : Text
  pub named : journal_in words ≡ Some journal
  pub trade : Option ℕ
  pub meant : trade_meant (trade_in words) ≡ Some trade
  pub unread : (new.left ≡ old.left) × (new.made ≡ old.made) × (new.reads_failed ≡ old.reads_failed)
  pub says : Says asks.house (sha256 asks.named.0) (journal_at journal)
      (flag_meant (totals_in words)) trade old.contents new.contents old.writes_failed
      new.writes_failed result

-- the journal of the words was copied to where they say; nothing was read or written beside that
pub record IsCopied (words : List Text) (journal_at : Text → Option (List ℕ))
    (is_copied : Text → List ℕ → Type 0) (old new : Told) : Type 0 where
  pub is : command_in words ≡ Some (codes "backup")
  pub journal : Text
  pub named : journal_in words ≡ Some journal
  pub to : Text
  pub asked : copy_in words ≡ Some to
  pub copies : Copies (journal_at journal) (is_copied to)
  pub same : new ≡ old

abbrev pub HasCopied : {A : Type 0} → List Text → (Text → Option (List ℕ))
    → (Text → List ℕ → Type 0) → Told → Told → Result A RunError → Type 0
HasCopied words journal_at is_copied old new (Ok x) = IsCopied words journal_at is_copied old new
HasCopied words journal_at is_copied old new (Err e) = ⊥

-- the journal of the words was written anew to where they say, under the house table that their
-- second house file names; nothing was read or written beside that
pub record IsAnew (words : List Text) (bytes_at journal_at : Text → Option (List ℕ))
    (is_copied : Text → List ℕ → Type 0) (old new : Told) : Type 0 where
  pub asks : Asks (codes "extend") words bytes_at
  pub larger : Text
  pub wider : larger_in words ≡ Some larger
  pub house : House
  pub pin : List ℕ
  pub pinned : IsPinnedAt (bytes_at larger) house pin
  pub journal : Text
  pub named : journal_in words ≡ Some journal
  pub to : Text
  pub asked : copy_in words ≡ Some to
  pub anew : IsWrittenAnew asks.house house (sha256 asks.named.0) pin (journal_at journal)
      (is_copied to)
  pub same : new ≡ old

abbrev pub HasExtended : {A : Type 0} → List Text → (Text → Option (List ℕ))
    → (Text → Option (List ℕ)) → (Text → List ℕ → Type 0) → Told → Told → Result A RunError
    → Type 0
HasExtended words bytes_at journal_at is_copied old new (Ok x) =
    IsAnew words bytes_at journal_at is_copied old new
HasExtended words bytes_at journal_at is_copied old new (Err e) = ⊥

-- a new book was begun where the words say, with what is live in the journal that they name, under
-- the house table that their second house file names, and its line was written
pub record HasBegun {A : Type 0} (words : List Text) (bytes_at journal_at : Text → Option (List ℕ))
    (is_copied : Text → List ℕ → Type 0) (old new : Told) (result : Result A RunError)
    : Type 0 where
  pub asks : Asks (codes "roll") words bytes_at
  pub larger : Text
  pub wider : larger_in words ≡ Some larger
  pub house : House
  pub pin : List ℕ
  pub pinned : IsPinnedAt (bytes_at larger) house pin
  pub journal : Text
  pub named : journal_in words ≡ Some journal
  pub to : Text
  pub asked : copy_in words ≡ Some to
  pub unread : (new.left ≡ old.left) × (new.made ≡ old.made) × (new.reads_failed ≡ old.reads_failed)
  pub begins : Begins asks.house house (sha256 asks.named.0) pin (journal_at journal)
      (keep_meant (flag_meant (open_in words))) (is_copied to) old.contents new.contents
      old.writes_failed new.writes_failed result

-- ---- statements

-- a statement was asked for, by the house table that the house file of the words names, of the book
-- behind what was read or of that of the journal that they name, and for the firm that they name,
-- which the table has. What was written this doesn't say.
pub record HasStated {A : Type 0} (words : List Text)
    (bytes_at journal_at : Text → Option (List ℕ)) (old new : Told) (result : Result A RunError)
    : Type 0 where
  pub asks : Asks (codes "statement") words bytes_at
  pub firm : Option Text
  pub whose : firm_in words ≡ firm
  pub known : AreKnown asks.house firm
  pub journal : Option Text
  pub named : journal_in words ≡ journal
  pub states : States asks.house (sha256 asks.named.0) (option_map journal_at journal) old new

-- ---- the program

-- what the words ask for was done
abbrev pub HasDone : {A : Type 0} → List Text → (Text → Option (List ℕ))
    → (Text → Option (List ℕ)) → (Text → List ℕ → Type 0) → Told → Told → Result A RunError
    → Type 0
HasDone words bytes_at journal_at is_copied old new result =
    HasRun words bytes_at old new result ⊎ HasTraced words bytes_at old new result
    ⊎ HasServed words bytes_at old new result ⊎ HasKept words bytes_at old new result
    ⊎ HasVerified words bytes_at journal_at old new result
    ⊎ HasCopied words journal_at is_copied old new result
    ⊎ HasExtended words bytes_at journal_at is_copied old new result
    ⊎ HasBegun words bytes_at journal_at is_copied old new result
    ⊎ HasStated words bytes_at journal_at old new result

-- a batch, a trace or a server was run to its end, a journal looked at, copied, extended or rolled,
-- a statement written, or nothing was touched, or the run ended with an error. House files have
-- these bytes, journals those, and this holds of copies, of what is extended and of new books.
abbrev pub Does : {A : Type 0} → List Text → (Text → Option (List ℕ)) → (Text → Option (List ℕ))
    → (Text → List ℕ → Type 0) → Told → Told → Result A Fault → Type 0
Does {A} words bytes_at journal_at is_copied old new (Ok x) =
    HasDone {A = A} words bytes_at journal_at is_copied old new (Ok x)
Does {A} words bytes_at journal_at is_copied old new (Err e) =
    (Stops words bytes_at e × (new ≡ old))
    ⊎ ((error : RunError) × (e ≡ Run error)
    × HasDone {A = A} words bytes_at journal_at is_copied old new (Err error))

-- the command line isn't at fault
abbrev pub IsUnderstood : Fault → Type 0
IsUnderstood (Usage text) = ⊥
IsUnderstood _ = Unit {0}
