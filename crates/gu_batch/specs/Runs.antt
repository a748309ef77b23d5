-- What a batch does to its reader and its writer.
use Rattle.std.specs.Prelude.{◌≡◌, ◌≢◌, ℕ, ◌+◌, ◌^◌, ◌<◌, ◌≤◌, ◌⊎◌, List, [], ◌++◌, length, take}
use Rattle.std.specs.Prelude.{Option, None, Result, Ok, Err, IfOk}
use Rattle.std.specs.Io.KnownBytes.{Consumes, Appends, IsAtEnd}
use Rattle.gu_codec.specs.Grammar.{IsFront}
use Rattle.gu_codec.specs.Stream.{Stream}
use Rattle.gu_base.specs.House.{House}
use Rattle.gu_codec.specs.Messages.{Clean, Truncated, Broken}
use Rattle.gu_codec.specs.Readings.{messages_of, end_of}
use Rattle.gu_batch.specs.Output.{Progress, start, texts, output_of, progress_of, Answers}
use Rattle.gu_batch.specs.Held.{LeadsTo, HeldFails}
use Rattle.gu_batch.specs.Limits.{most_reads, longest_read}
use Rattle.gu_batch.specs.Counts.{Fails}
use Rattle.gu_batch.specs.declared.batch.RunError.{RunError}
use Rattle.gu_batch.specs.declared.batch.RunError.TheVariants as error
use Rattle.gu_batch.specs.declared.batch.Came.{Came}
use Rattle.gu_batch.specs.declared.batch.Came.TheVariants as came

-- all reads that a batch may make were made
abbrev pub IsAtLimit : ℕ → ℕ → Type 0
IsAtLimit old new = old + most_reads < 2 ^ 64 → old + most_reads ≤ new

-- what a reader and a writer tell: at the call and at the return
pub record Told : Type 0 where
  pub left : Option (List ℕ)
  pub made : ℕ
  pub reads_failed : ℕ
  pub contents : Option (List ℕ)
  pub writes_failed : ℕ

-- these bytes were read and this text was written, which is right for this error
abbrev pub IsRightFor : House → Told → Told → List ℕ → List ℕ → RunError → Type 0
IsRightFor house old new bytes out (error.Broken at) =
    (end_of bytes ≡ Broken at) × (out ≡ output_of house bytes)
IsRightFor house old new bytes out (error.Truncated at) =
    IsAtEnd new.left × (end_of bytes ≡ Truncated at) × (out ≡ output_of house bytes)
IsRightFor house old new bytes out error.Read =
    (Fails old.reads_failed new.reads_failed ⊎ IsAtLimit old.made new.made)
    × (out ≡ output_of house bytes)
IsRightFor house old new bytes out error.Write =
    Fails old.writes_failed new.writes_failed × (rest : List ℕ)
    × (output_of house bytes ≡ out ++ rest)
IsRightFor house old new bytes out error.Memory =
    (n : ℕ) × (out ≡ texts (start house) (take n (messages_of bytes)))
IsRightFor house old new bytes out (error.NoLiveTrade trade) = ⊥

-- what was read and written is right for this result
abbrev pub IsRight : {A : Type 0} → House → Told → Told → List ℕ → List ℕ → Result A RunError
    → Type 0
IsRight house old new bytes out (Ok x) =
    IsAtEnd new.left × (end_of bytes ≡ Clean) × (out ≡ output_of house bytes)
IsRight house old new bytes out (Err e) = IsRightFor house old new bytes out e

-- the bytes that were read, and the text that was written
pub record Runs {A : Type 0} (house : House) (old new : Told) (result : Result A RunError)
    : Type 0 where
  pub bytes : List ℕ
  pub out : List ℕ
  pub consumed : Consumes old.left new.left bytes
  pub appended : Appends old.contents new.contents out
  pub right : IsRight house old new bytes out result

-- the same, and how far it came
pub record RunsTo (house : House) (old new : Told) (result : Result Progress RunError)
    : Type 0 where
  pub bytes : List ℕ
  pub out : List ℕ
  pub consumed : Consumes old.left new.left bytes
  pub appended : Appends old.contents new.contents out
  pub right : IsRight house old new bytes out result
  pub behind : IfOk result (λ p. p ≡ progress_of house bytes)

-- a result with how far it came
abbrev pub and_progress : {A : Type 0} → Result A RunError → Progress → Result Progress RunError
and_progress (Ok x) p = Ok p
and_progress (Err e) p = Err e

-- ---- one read

-- a read of this piece, with so many failed reads before and after it, is told as this
abbrev pub CameAs : List ℕ → Option (List ℕ) → ℕ → ℕ → Came → Type 0
CameAs piece left old new (came.Bytes count) = (length piece ≡ count) × (old ≡ new)
CameAs piece left old new came.Nothing = (piece ≡ []) × (old ≡ new)
CameAs piece left old new came.End = (piece ≡ []) × IsAtEnd left × (old ≡ new)
CameAs piece left old new came.Fault = (piece ≡ []) × Fails old new

-- one read into the feed
pub record Fills (old new : Option (List ℕ)) (failed_before failed : ℕ) (feed_before feed : Stream)
    (result : Came) : Type 0 where
  pub piece : List ℕ
  pub few : length piece ≤ longest_read
  pub consumed : Consumes old new piece
  pub pushed : feed ≡ record feed_before { held = feed_before.held ++ piece }
  pub came : CameAs piece new failed_before failed result
  pub grows : failed_before ≤ failed

-- ---- one piece

-- a fault of the frames held, or of the writer, which has taken a front of the text
abbrev pub PieceFails : Progress → Stream → List ℕ → ℕ → ℕ → RunError → Type 0
PieceFails p f out old new error.Write =
    Fails old new × (rest : List ℕ)
    × ((later : List ℕ) → Answers p f.passed (f.held ++ later) None (out ++ rest))
PieceFails p f out old new (error.Broken at) = HeldFails p f out (error.Broken at)
PieceFails p f out old new error.Memory = HeldFails p f out error.Memory
PieceFails p f out old new (error.Truncated at) = ⊥
PieceFails p f out old new error.Read = ⊥
PieceFails p f out old new (error.NoLiveTrade trade) = ⊥

-- what comes of a piece: from where the run stood to where it stands
abbrev pub PieceRight : {A : Type 0} → Progress → Stream → Progress → Stream → List ℕ → ℕ → ℕ
    → Result A RunError → Type 0
PieceRight p f q g out old new (Ok x) = LeadsTo p f q g out × IsFront g.held
PieceRight p f q g out old new (Err e) = PieceFails p f out old new e

-- the frames held were answered, and the answers written
pub record Answered {A : Type 0} (p : Progress) (f : Stream) (q : Progress) (g : Stream)
    (old new : Option (List ℕ)) (failed_before failed : ℕ) (result : Result A RunError)
    : Type 0 where
  pub out : List ℕ
  pub appended : Appends old new out
  pub right : PieceRight p f q g out failed_before failed result
  pub grows : failed_before ≤ failed

-- ---- the end

-- why the stream that ended here is at fault
abbrev pub EndFails : Stream → RunError → Type 0
EndFails f (error.Truncated at) = (at ≡ f.passed) × (f.held ≢ [])
EndFails f (error.Broken at) = ⊥
EndFails f error.Read = ⊥
EndFails f error.Write = ⊥
EndFails f error.Memory = ⊥
EndFails f (error.NoLiveTrade trade) = ⊥

-- the result at the end of the stream
abbrev pub EndsAs : {A : Type 0} → Stream → Result A RunError → Type 0
EndsAs f (Ok x) = f.held ≡ []
EndsAs f (Err e) = EndFails f e
