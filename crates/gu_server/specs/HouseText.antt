-- House files: which bytes are read of one, and why it isn't read.
use Rattle.std.specs.Prelude.{◌≡◌, ℕ, ◌+◌, ◌<◌, ◌≤◌, ◌⊎◌, List, length, Option, IfSome, Result, Ok}
use Rattle.std.specs.Prelude.{Err}
use Rattle.std.specs.Io.KnownBytes.{Consumes, IsAtEnd}
use Rattle.gu_batch.specs.Counts.{Fails}
use Rattle.gu_batch.specs.declared.batch.RunError.TheVariants.{Memory}
use Rattle.gu_server.specs.Limits.{most_bytes, longest_read}
use Rattle.gu_command.specs.declared.fault.Fault.{Fault}
use Rattle.gu_command.specs.declared.fault.Fault.TheVariants.{HouseFile, Run}

-- the text of a file is all of its bytes, which are no more than a house file may have
abbrev pub IsTextOf : Option (List ℕ) → List ℕ → Type 0
IsTextOf known text = (length text ≤ most_bytes) × IfSome known (λ bytes. text ≡ bytes)

-- the file has more bytes than a house file may have
abbrev pub IsTooLong : Option (List ℕ) → Type 0
IsTooLong known = IfSome known (λ bytes. most_bytes < length bytes)

-- why a file wasn't read
abbrev pub IsUnread : Option (List ℕ) → Fault → Type 0
IsUnread known HouseFile = IsTooLong known
IsUnread known (Run Memory) = Unit {0}
IsUnread known _ = ⊥

-- this text of a file with these bytes was read, or why it wasn't
abbrev pub Reads : {A : Type 0} → Option (List ℕ) → List ℕ → Result A Fault → Type 0
Reads known text (Ok x) = IsTextOf known text
Reads known text (Err e) = IsUnread known e

-- ---- of a reader

-- these bytes were taken of a reader: they were all and are the text, or why they aren't
abbrev pub IsRead : {A : Type 0} → List ℕ → Option (List ℕ) → ℕ → ℕ → List ℕ → Result A Fault
    → Type 0
IsRead bytes left failed_before failed text (Ok x) = (text ≡ bytes) × IsAtEnd left
IsRead bytes left failed_before failed text (Err HouseFile) =
    Fails failed_before failed ⊎ (most_bytes < length bytes)
IsRead bytes left failed_before failed text (Err (Run Memory)) = Unit {0}
IsRead bytes left failed_before failed text (Err _) = ⊥

-- the reader was read to its end, or why it wasn't; of a longer one no more than a read was taken
-- beyond the bound
pub record ReadsAll {A : Type 0} (old new : Option (List ℕ)) (failed_before failed : ℕ)
    (text : List ℕ) (result : Result A Fault) : Type 0 where
  pub bytes : List ℕ
  pub consumed : Consumes old new bytes
  pub few : length bytes ≤ most_bytes + longest_read
  pub held : length text ≤ most_bytes
  pub right : IsRead bytes new failed_before failed text result
