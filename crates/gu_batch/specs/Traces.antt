-- What `trace` writes of a stream: the trace of a trade, if one was asked for, and the totals, over
-- the history of the stream's messages.
use Rattle.std.specs.Prelude.{◌≡◌, ℕ, ◌⊎◌, ◌&&◌, Bool, true, false, List, [], ◌++◌, Option, Some}
use Rattle.std.specs.Prelude.{None, IfSome, Result, Ok, Err}
use Rattle.std.specs.Io.KnownBytes.{Consumes, Appends, IsAtEnd}
use Rattle.gu_base.specs.House.{House}
use Rattle.gu_base.specs.History.{live}
use Rattle.gu_base.specs.Numbers.{is_number}
use Rattle.gu_base.specs.declared.entry.Entry.{Entry}
use Rattle.gu_book.specs.TreeRows.{is_live_trade}
use Rattle.gu_codec.specs.Messages.{Clean, Truncated, Broken}
use Rattle.gu_codec.specs.Readings.{end_of}
use Rattle.gu_trace.specs.Trace.{trace_text}
use Rattle.gu_trace.specs.Totals.{totals_text}
use Rattle.gu_batch.specs.Output.{history_of}
use Rattle.gu_batch.specs.Runs.{Told, IsAtLimit}
use Rattle.gu_batch.specs.Counts.{Fails}
use Rattle.gu_batch.specs.declared.batch.RunError.{RunError}
use Rattle.gu_batch.specs.declared.batch.RunError.TheVariants as error

-- the number is that of an entry, which is a live trade
abbrev pub is_traced : List Entry → ℕ → Bool
is_traced h trade = is_number trade && is_live_trade (live h) trade

-- the trace of a trade, if one was asked for
abbrev pub asked_text : House → List Entry → Option ℕ → List ℕ
asked_text house h None = []
asked_text house h (Some trade) = trace_text house h trade

-- and then the totals
abbrev pub told_text : House → List Entry → Option ℕ → List ℕ
told_text house h trade = asked_text house h trade ++ totals_text house h

-- why nothing is told of a history: the number that was asked for is that of no live trade, or
-- memory ran out
abbrev pub IsUntold : List Entry → Option ℕ → RunError → Type 0
IsUntold h trade (error.NoLiveTrade number) = (trade ≡ Some number) × (is_traced h number ≡ false)
IsUntold h trade error.Memory = Unit {0}
IsUntold h trade (error.Broken at) = ⊥
IsUntold h trade (error.Truncated at) = ⊥
IsUntold h trade error.Read = ⊥
IsUntold h trade error.Write = ⊥

-- the text that is told of a history, or why there is none
abbrev pub Tells : House → List Entry → Option ℕ → Result (List ℕ) RunError → Type 0
Tells house h trade (Ok text) =
    IfSome trade (λ number. is_traced h number ≡ true) × (text ≡ told_text house h trade)
Tells house h trade (Err e) = IsUntold h trade e

-- ---- the run

-- the stream was read to its end, which is clean
abbrev pub IsReadThrough : Told → List ℕ → Type 0
IsReadThrough new bytes = IsAtEnd new.left × (end_of bytes ≡ Clean)

-- these bytes were read and this text was written, which is right for this error: nothing at all,
-- unless it is the writer that failed
abbrev pub IsTracedFor : House → Option ℕ → Told → Told → List ℕ → List ℕ → RunError → Type 0
IsTracedFor house trade old new bytes out (error.Broken at) =
    (end_of bytes ≡ Broken at) × (out ≡ [])
IsTracedFor house trade old new bytes out (error.Truncated at) =
    IsAtEnd new.left × (end_of bytes ≡ Truncated at) × (out ≡ [])
IsTracedFor house trade old new bytes out error.Read =
    (Fails old.reads_failed new.reads_failed ⊎ IsAtLimit old.made new.made) × (out ≡ [])
IsTracedFor house trade old new bytes out (error.NoLiveTrade number) =
    IsReadThrough new bytes × IsUntold (history_of house bytes) trade (error.NoLiveTrade number)
    × (out ≡ [])
IsTracedFor house trade old new bytes out error.Memory = out ≡ []
IsTracedFor house trade old new bytes out error.Write =
    Fails old.writes_failed new.writes_failed × IsReadThrough new bytes × (rest : List ℕ)
    × Tells house (history_of house bytes) trade (Ok (out ++ rest))

-- what was read and written is right for this result of a trace
abbrev pub IsTraced : {A : Type 0} → House → Option ℕ → Told → Told → List ℕ → List ℕ
    → Result A RunError → Type 0
IsTraced house trade old new bytes out (Ok x) =
    IsReadThrough new bytes × Tells house (history_of house bytes) trade (Ok out)
IsTraced house trade old new bytes out (Err e) = IsTracedFor house trade old new bytes out e

-- the bytes that were read, and the text that was written
pub record Traces {A : Type 0} (house : House) (trade : Option ℕ) (old new : Told)
    (result : Result A RunError) : Type 0 where
  pub bytes : List ℕ
  pub out : List ℕ
  pub consumed : Consumes old.left new.left bytes
  pub appended : Appends old.contents new.contents out
  pub right : IsTraced house trade old new bytes out result

-- ---- the totals alone

-- this text was written of a book: its totals, a front of them where the writer failed, and else
-- nothing
abbrev pub IsTotalled : {A : Type 0} → House → List Entry → ℕ → ℕ → List ℕ → Result A RunError
    → Type 0
IsTotalled house h failed_before failed out (Ok x) = out ≡ totals_text house h
IsTotalled house h failed_before failed out (Err error.Write) =
    Fails failed_before failed × (rest : List ℕ) × (totals_text house h ≡ out ++ rest)
IsTotalled house h failed_before failed out (Err error.Memory) = out ≡ []
IsTotalled house h failed_before failed out (Err _) = ⊥

-- the totals of a history were written
pub record WritesTotals {A : Type 0} (house : House) (h : List Entry) (old new : Option (List ℕ))
    (failed_before failed : ℕ) (result : Result A RunError) : Type 0 where
  pub out : List ℕ
  pub appended : Appends old new out
  pub right : IsTotalled house h failed_before failed out result
