-- What is said of a journal's bytes, and what a copy has.
use Rattle.std.specs.Prelude.{◌≡◌, ℕ, Bool, true, false, List, [], ◌∷◌, ◌++◌, length, decimal}
use Rattle.std.specs.Prelude.{Option, Some, None, IfSome, Result, Ok, Err, codes, IsTrue}
use Rattle.std.specs.Io.KnownBytes.{Appends}
use Rattle.gu_base.specs.House.{House}
use Rattle.gu_base.specs.declared.entry.Entry.{Entry}
use Rattle.gu_batch.specs.Counts.{Fails}
use Rattle.gu_batch.specs.Traces.{is_traced, told_text, IsUntold}
use Rattle.gu_batch.specs.declared.batch.RunError.{RunError}
use Rattle.gu_batch.specs.declared.batch.RunError.TheVariants as error
use Rattle.gu_command.specs.Faults.{is_keep_fault}
use Rattle.gu_command.specs.declared.fault.Fault.{Fault}
use Rattle.gu_command.specs.declared.fault.Fault.TheVariants as fault
use Rattle.gu_copies.specs.declared.error.LookError.{LookError}
use Rattle.gu_copies.specs.declared.error.LookError.TheVariants.{Unread, Refused, Run}
use Rattle.gu_journal.specs.Counting.{Recovers}
use Rattle.gu_journal.specs.Damages.{HasNoLater}
use Rattle.gu_journal.specs.Journal.{IsJournal}
use Rattle.gu_journal.specs.Leading.{HasNoFront}
use Rattle.gu_journal.specs.Places.{NamesCause}
use Rattle.gu_journal.specs.Session.{digest_text}
use Rattle.gu_journal.specs.Taking.{IsFault}
use Rattle.gu_journal.specs.declared.damage.RecoverError.{RecoverError}

-- the line of so many entries, which these bytes of a journal say: how many there are of both, and
-- the SHA-512 of the bytes
abbrev pub verified_line : ℕ → List ℕ → List ℕ
verified_line entries bytes =
    codes "entries " ++ decimal entries ++ codes " bytes " ++ decimal (length bytes)
    ++ codes " sha512 " ++ digest_text bytes ++ 10 ∷ []

-- The line says what a start answers of a file: this history, and bytes of a journal that has it.
-- It isn't one that a start refuses for a later group.
pub record IsVerified (t : House) (pin file : List ℕ) (h : List Entry) (line : List ℕ)
    : Type 0 where
  pub recovers : Recovers t pin file h
  pub later : HasNoLater t pin file h
  pub bytes : List ℕ
  pub journal : IsJournal t pin bytes h
  pub says : line ≡ verified_line (length h) bytes

-- A start from a file is refused by this. What is told of its bytes holds of them, and they are no
-- front of a journal then, but for a later group.
abbrev pub IsRefusal : House → List ℕ → List ℕ → RecoverError → Type 0
IsRefusal t pin file e = NamesCause true file t pin e × (IsFault e → HasNoFront t pin file)

-- what is written behind the line: the trace of a trade and the totals, if they are asked for
abbrev pub asked_text : House → List Entry → Bool → Option ℕ → List ℕ
asked_text t h totals (Some trade) = told_text t h (Some trade)
asked_text t h true None = told_text t h None
asked_text t h false None = []

-- all that is written
pub record IsSaid (t : House) (pin file : List ℕ) (totals : Bool) (trade : Option ℕ)
    (text : List ℕ) : Type 0 where
  pub h : List Entry
  pub line : List ℕ
  pub verified : IsVerified t pin file h line
  pub live : IfSome trade (λ number. is_traced h number ≡ true)
  pub whole : text ≡ line ++ asked_text t h totals trade

-- these bytes were written, which is right for this result of a look at a file: all of the text, a
-- front of it where the writer failed, and else nothing
abbrev pub IsRight : {A : Type 0} → House → List ℕ → List ℕ → Bool → Option ℕ → ℕ → ℕ → List ℕ
    → Result A RunError → Type 0
IsRight t pin file totals trade failed_before failed out (Ok x) =
    IsSaid t pin file totals trade out
IsRight t pin file totals trade failed_before failed out (Err error.Write) =
    Fails failed_before failed × (rest : List ℕ) × IsSaid t pin file totals trade (out ++ rest)
IsRight t pin file totals trade failed_before failed out (Err (error.NoLiveTrade number)) =
    (out ≡ []) × (h : List Entry) × Recovers t pin file h
    × IsUntold h trade (error.NoLiveTrade number)
IsRight t pin file totals trade failed_before failed out (Err error.Memory) = out ≡ []
IsRight t pin file totals trade failed_before failed out (Err _) = ⊥

-- a journal's file, whose bytes are these where they are known, was looked at, and that was written
pub record Says {A : Type 0} (t : House) (pin : List ℕ) (known : Option (List ℕ)) (totals : Bool)
    (trade : Option ℕ) (old new : Option (List ℕ)) (failed_before failed : ℕ)
    (result : Result A RunError) : Type 0 where
  pub file : List ℕ
  pub is : IfSome known (λ bytes. file ≡ bytes)
  pub out : List ℕ
  pub appended : Appends old new out
  pub right : IsRight t pin file totals trade failed_before failed out result

-- the same where more can go wrong: where the file can't be read, or a start would refuse it,
-- nothing was written
abbrev pub Looks : {A : Type 0} → House → List ℕ → Option (List ℕ) → Bool → Option ℕ
    → Option (List ℕ) → Option (List ℕ) → ℕ → ℕ → Result A LookError → Type 0
Looks {A} t pin known totals trade old new failed_before failed (Ok x) =
    Says {A = A} t pin known totals trade old new failed_before failed (Ok x)
Looks {A} t pin known totals trade old new failed_before failed (Err (Run e)) =
    Says {A = A} t pin known totals trade old new failed_before failed (Err e)
Looks t pin known totals trade old new failed_before failed (Err (Unread e)) =
    (new ≡ old) × (failed ≡ failed_before) × IsTrue (is_keep_fault e)
Looks t pin known totals trade old new failed_before failed (Err (Refused e)) =
    (new ≡ old) × (failed ≡ failed_before)
    × ((file : List ℕ) × IfSome known (λ bytes. file ≡ bytes) × IsRefusal t pin file e)

-- this fault says why it isn't told what a start would say
abbrev pub IsFaultOf : LookError → Fault → Type 0
IsFaultOf (Unread e) f = f ≡ e
IsFaultOf (Refused e) f = IsTrue (is_keep_fault f)
IsFaultOf (Run e) f = f ≡ fault.Run e

-- a file, whose bytes are these where they are known, was copied whole
abbrev pub Copies : Option (List ℕ) → (List ℕ → Type 0) → Type 0
Copies known is_copied = (file : List ℕ) × IfSome known (λ bytes. file ≡ bytes) × is_copied file
