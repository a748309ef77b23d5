-- What answering the frames that are held gives.
use Rattle.std.specs.Prelude.{◌≡◌, ℕ, ◌+◌, ◌≤◌, List, ◌++◌, length, Option, Some, None, Result, Ok}
use Rattle.std.specs.Prelude.{Err}
use Rattle.gu_codec.specs.Grammar.{IsFront}
use Rattle.gu_codec.specs.Stream.{Stream}
use Rattle.gu_codec.specs.Messages.{End, Broken}
use Rattle.gu_batch.specs.Output.{Progress, Answers, Plays}
use Rattle.gu_batch.specs.declared.batch.RunError.{RunError}
use Rattle.gu_batch.specs.declared.batch.RunError.TheVariants as error

-- from here on, whatever comes later, the bytes held are answered by this text and then as the new
-- progress says
pub record LeadsTo (p : Progress) (old : Stream) (q : Progress) (new : Stream) (out : List ℕ)
    : Type 0 where
  pub unbroken : new.broken ≡ None
  pub same : new.passed + length new.held ≡ old.passed + length old.held
  pub counted : p.written ≤ old.passed → q.written ≤ new.passed
  pub goes : (later : List ℕ) (end : Option End) (more : List ℕ)
      → Answers q new.passed (new.held ++ later) end more
      → Answers p old.passed (old.held ++ later) end (out ++ more)
  pub plays : (later : List ℕ) (end : Option End) (behind : Progress)
      → Plays q new.passed (new.held ++ later) end behind
      → Plays p old.passed (old.held ++ later) end behind

-- the frames before a fault were answered by this text: the stream is broken there, or memory ran
-- out
abbrev pub HeldFails : Progress → Stream → List ℕ → RunError → Type 0
HeldFails p old out (error.Broken at) =
    (later : List ℕ) → Answers p old.passed (old.held ++ later) (Some (Broken at)) out
HeldFails p old out error.Memory =
    (later : List ℕ) → Answers p old.passed (old.held ++ later) None out
HeldFails p old out (error.Truncated at) = ⊥
HeldFails p old out error.Read = ⊥
HeldFails p old out error.Write = ⊥
HeldFails p old out (error.NoLiveTrade trade) = ⊥

-- the frames held were answered by this text, all of them or those before a fault
abbrev pub AnswersHeld : {A : Type 0} → Progress → Stream → Progress → Stream → List ℕ
    → Result A RunError → Type 0
AnswersHeld p old q new out (Ok x) = LeadsTo p old q new out × IsFront new.held
AnswersHeld p old q new out (Err e) = HeldFails p old out e
