-- What was done where a statement was asked for.
use Rattle.std.proofs.Common.{◌≡◌, ◌∙◌, ℕ, List, Option, Some, None, Result, Ok, Err, inl, inr, ap, codes, is_some}
use Rattle.std.proofs.Common.{option_map, refl, subst}
use Rattle.std.specs.Prelude.{IsTrue, IfSome}
use Rattle.std.proofs.lemmas.Bool.{false≢true}
use Rattle.clap.specs.Words.{Text}
use Rattle.gu_base.specs.House.{House}
use Rattle.gu_base.specs.declared.entry.Entry.{Entry}
use Rattle.gu_batch.specs.Runs.{Told}
use Rattle.gu_batch.specs.declared.batch.RunError.{RunError}
use Rattle.gu_batch.specs.declared.batch.RunError.TheVariants as run
use Rattle.gu_command.specs.Faults.{is_keep_fault}
use Rattle.gu_command.specs.Lines.{firm_in, journal_in}
use Rattle.gu_command.specs.declared.fault.Fault.{Fault}
use Rattle.gu_command.specs.declared.fault.Fault.TheVariants as fault
use Rattle.gu_journal.specs.Counting.{Recovers}
use Rattle.gu_journal.specs.Damages.{HasNoLater}
use Rattle.sha2.specs.Sha256.{sha256}
use Rattle.gu_server.specs.Program.{Asks, HasDone, Does}
use Rattle.gu_server.specs.Stated.{AreKnown, IsUnknown, States, StatesStream, StatesJournal}
use Rattle.gu_server.proofs.Served.{refused_by}

-- what a reader and a writer tell
abbrev tells : Option (List ℕ) → ℕ → ℕ → Option (List ℕ) → ℕ → Told
tells left made failed contents writes_failed =
    record { left = left; made = made; reads_failed = failed; contents = contents; writes_failed = writes_failed }

-- the words ask for a statement by the house table that they name, which has the firm; and it is of a book
pub stated : {A : Type 0} (words : List Text) (bytes_at journal_at : Text → Option (List ℕ))
    (is_copied : Text → List ℕ → Type 0) (firm journal : Option Text) (old new : Told) (r : Result A RunError)
    (pin : List ℕ) → (by : Asks (codes "statement") words bytes_at) → pin ≡ sha256 by.named.0
    → firm_in words ≡ firm → journal_in words ≡ journal → AreKnown by.house firm
    → States by.house pin (option_map journal_at journal) old new
    → HasDone words bytes_at journal_at is_copied old new r
stated words bytes_at journal_at is_copied firm journal old new r pin by same whose named known states =
    inr (inr (inr (inr (inr (inr (inr (inr (record {
      asks = by;
      firm = firm;
      whose = whose;
      known = known;
      journal = journal;
      named = named;
      states = subst (λ (p : List ℕ). States by.house p (option_map journal_at journal) old new) same states;
    }))))))))

-- the same of a journal's book, or the journal is at fault
pub stated_by : (words : List Text) (bytes_at journal_at : Text → Option (List ℕ))
    (is_copied : Text → List ℕ → Type 0) (firm : Option Text) (journal : Text) (l : Option (List ℕ)) (x f : ℕ)
    (b c : Option (List ℕ)) (v w : ℕ) (r : Result (Unit {0}) Fault) (pin : List ℕ)
    → (by : Asks (codes "statement") words bytes_at) → pin ≡ sha256 by.named.0 → firm_in words ≡ firm
    → journal_in words ≡ Some journal → AreKnown by.house firm
    → StatesJournal by.house pin (journal_at journal) b c v w r
    → Does words bytes_at journal_at is_copied (tells l x f b v) (tells l x f c w) r
stated_by words bytes_at journal_at is_copied firm journal l x f b c v w (Ok done) pin by same whose named known of =
    stated words bytes_at journal_at is_copied firm (Some journal) (tells l x f b v) (tells l x f c w) (Ok done) pin by
    same whose named known (refl, refl, refl, of)
stated_by words bytes_at journal_at is_copied firm journal l x f b c v w (Err (fault.Run e)) pin by same whose named
    known of =
    inr (
      e,
      refl,
      stated words bytes_at journal_at is_copied firm (Some journal) (tells l x f b v) (tells l x f c w) (Err e) pin by
          same whose named known (refl, refl, refl, of),
    )
stated_by words bytes_at journal_at is_copied firm journal l x f b c v w (Err (fault.Journal t)) pin by same whose
    named known of =
    refused_by words bytes_at journal_at is_copied (tells l x f b v) (tells l x f c w) (fault.Journal t)
    (inr (inr (inr (inr (inr (by, ap is_some named)))))) refl
    (ap (λ y. tells l x f y w) of.0 ∙ ap (λ y. tells l x f b y) of.1)
stated_by words bytes_at journal_at is_copied firm journal l x f b c v w (Err (fault.Keep e)) pin by same whose named
    known of =
    refused_by words bytes_at journal_at is_copied (tells l x f b v) (tells l x f c w) (fault.Keep e)
    (inr (inr (inr (inr (inr (by, ap is_some named)))))) refl
    (ap (λ y. tells l x f y w) of.0 ∙ ap (λ y. tells l x f b y) of.1)
stated_by words bytes_at journal_at is_copied firm journal l x f b c v w (Err (fault.Usage t)) pin by same whose named
    known of = absurd of
stated_by words bytes_at journal_at is_copied firm journal l x f b c v w (Err fault.HouseFile) pin by same whose named
    known of = absurd of
stated_by words bytes_at journal_at is_copied firm journal l x f b c v w (Err (fault.HouseLine e)) pin by same whose
    named known of = absurd of
stated_by words bytes_at journal_at is_copied firm journal l x f b c v w (Err (fault.NoFirm t)) pin by same whose named
    known of = absurd of
stated_by words bytes_at journal_at is_copied firm journal l x f b c v w (Err (fault.Service e)) pin by same whose
    named known of = absurd of

-- the same of the book behind what was read
pub streamed_by : (words : List Text) (bytes_at journal_at : Text → Option (List ℕ))
    (is_copied : Text → List ℕ → Type 0) (firm : Option Text) (old new : Told) (r : Result (Unit {0}) Fault)
    (pin : List ℕ) → (by : Asks (codes "statement") words bytes_at) → pin ≡ sha256 by.named.0
    → firm_in words ≡ firm → journal_in words ≡ None → AreKnown by.house firm → StatesStream r
    → Does words bytes_at journal_at is_copied old new r
streamed_by words bytes_at journal_at is_copied firm old new (Ok done) pin by same whose named known of =
    stated words bytes_at journal_at is_copied firm None old new (Ok done) pin by same whose named known tt
streamed_by words bytes_at journal_at is_copied firm old new (Err (fault.Run e)) pin by same whose named known of =
    inr (e, refl, stated words bytes_at journal_at is_copied firm None old new (Err e) pin by same whose named known tt)
streamed_by words bytes_at journal_at is_copied firm old new (Err (fault.Usage t)) pin by same whose named known of =
    absurd of
streamed_by words bytes_at journal_at is_copied firm old new (Err fault.HouseFile) pin by same whose named known of =
    absurd of
streamed_by words bytes_at journal_at is_copied firm old new (Err (fault.HouseLine e)) pin by same whose named known
    of = absurd of
streamed_by words bytes_at journal_at is_copied firm old new (Err (fault.NoFirm t)) pin by same whose named known of =
    absurd of
streamed_by words bytes_at journal_at is_copied firm old new (Err (fault.Service e)) pin by same whose named known of =
    absurd of
streamed_by words bytes_at journal_at is_copied firm old new (Err (fault.Journal t)) pin by same whose named known of =
    absurd of
streamed_by words bytes_at journal_at is_copied firm old new (Err (fault.Keep e)) pin by same whose named known of =
    absurd of

-- the words ask for the statement of a firm that the house table lacks, or memory ran out
pub unknown_by : (words : List Text) (bytes_at journal_at : Text → Option (List ℕ))
    (is_copied : Text → List ℕ → Type 0) (firm : Option Text) (told : Told) (e : Fault)
    → (by : Asks (codes "statement") words bytes_at) → firm_in words ≡ firm → IsUnknown by.house firm e
    → Does {A = Unit {0}} words bytes_at journal_at is_copied told told (Err e)
unknown_by words bytes_at journal_at is_copied firm told (fault.NoFirm t) by whose un =
    inl (record { asks = by; named = whose ∙ un.0; unknown = un.1 }, refl)
unknown_by words bytes_at journal_at is_copied firm told (fault.Run run.Memory) by whose un = inl (un, refl)
unknown_by words bytes_at journal_at is_copied firm told (fault.Run (run.Broken at)) by whose un = absurd un
unknown_by words bytes_at journal_at is_copied firm told (fault.Run (run.Truncated at)) by whose un = absurd un
unknown_by words bytes_at journal_at is_copied firm told (fault.Run run.Read) by whose un = absurd un
unknown_by words bytes_at journal_at is_copied firm told (fault.Run run.Write) by whose un = absurd un
unknown_by words bytes_at journal_at is_copied firm told (fault.Run (run.NoLiveTrade trade)) by whose un = absurd un
unknown_by words bytes_at journal_at is_copied firm told (fault.Usage t) by whose un = absurd un
unknown_by words bytes_at journal_at is_copied firm told fault.HouseFile by whose un = absurd un
unknown_by words bytes_at journal_at is_copied firm told (fault.HouseLine e) by whose un = absurd un
unknown_by words bytes_at journal_at is_copied firm told (fault.Service e) by whose un = absurd un
unknown_by words bytes_at journal_at is_copied firm told (fault.Journal t) by whose un = absurd un
unknown_by words bytes_at journal_at is_copied firm told (fault.Keep e) by whose un = absurd un

-- a journal at fault, whose statement isn't written then
pub unstated : (t : House) (pin : List ℕ) (known told : Option (List ℕ)) (failed : ℕ) (e : Fault)
    → IsTrue (is_keep_fault e) → StatesJournal {A = Unit {0}} t pin known told told failed failed (Err e)
unstated t pin known told failed (fault.Journal text) is = (refl, refl)
unstated t pin known told failed (fault.Keep error) is = (refl, refl)
unstated t pin known told failed (fault.Usage text) is = absurd (false≢true is)
unstated t pin known told failed fault.HouseFile is = absurd (false≢true is)
unstated t pin known told failed (fault.HouseLine error) is = absurd (false≢true is)
unstated t pin known told failed (fault.NoFirm text) is = absurd (false≢true is)
unstated t pin known told failed (fault.Service error) is = absurd (false≢true is)
unstated t pin known told failed (fault.Run error) is = absurd (false≢true is)

module _ (t : House) (pin : List ℕ) (known old new : Option (List ℕ)) (failed_before failed : ℕ) (h : List Entry)
    (file : List ℕ) (same : IfSome known (λ bytes. file ≡ bytes)) (recovers : Recovers t pin file h)
    (later : HasNoLater t pin file h) where
  -- the statement of the book that the journal says was written, or not whole
  pub told_of : {A : Type 0} (r : Result A Fault) → StatesStream r
      → StatesJournal t pin known old new failed_before failed r
  told_of (Ok x) states = (h, (file, same, recovers, later))
  told_of (Err (fault.Run e)) states = (h, (file, same, recovers, later))
  told_of (Err (fault.Usage text)) states = absurd states
  told_of (Err fault.HouseFile) states = absurd states
  told_of (Err (fault.HouseLine e)) states = absurd states
  told_of (Err (fault.NoFirm text)) states = absurd states
  told_of (Err (fault.Service e)) states = absurd states
  told_of (Err (fault.Journal text)) states = absurd states
  told_of (Err (fault.Keep e)) states = absurd states
