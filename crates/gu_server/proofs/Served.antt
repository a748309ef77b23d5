-- What was done where a trace was run, where firms were served, and where the house file is at fault.
use Rattle.std.proofs.Common.{◌≡◌, ℕ, Bool, inl, inr, List, Option, Some, Result, Ok, Err, codes, refl, sym, subst}
use Rattle.std.proofs.Common.{ap, ◌∙◌}
use Rattle.std.proofs.lemmas.Bool.{false≢true}
use Rattle.clap.specs.Words.{Text}
use Rattle.gu_base.specs.House.{House}
use Rattle.gu_batch.specs.Runs.{Told}
use Rattle.gu_batch.specs.Traces.{Traces}
use Rattle.gu_batch.specs.declared.batch.RunError.{RunError}
use Rattle.gu_batch.specs.declared.batch.RunError.TheVariants as run
use Rattle.std.specs.Prelude.{IfErr, OnOk, IsTrue}
use Rattle.gu_command.specs.Faults.{is_keep_fault}
use Rattle.gu_command.specs.Flags.{flag_meant}
use Rattle.gu_command.specs.Lines.{command_in, house_in, journal_in, trade_in, trade_meant, totals_in, copy_in}
use Rattle.gu_command.specs.Lines.{larger_in, open_in}
use Rattle.gu_copies.specs.Verified.{Says, Looks, IsFaultOf, Copies}
use Rattle.gu_copies.specs.Extended.{IsWrittenAnew}
use Rattle.gu_copies.specs.Rolled.{Begins, Rolls, keep_meant}
use Rattle.gu_copies.specs.declared.error.LookError.{LookError}
use Rattle.gu_copies.specs.declared.error.LookError.TheVariants as look
use Rattle.gu_keep.specs.Keeping.{Keeps}
use Rattle.sha2.specs.Sha256.{sha256}
use Rattle.gu_server.specs.Program.{Names, Asks, AsksOfJournal, Serves, HasVerified, HasDone, Does, IsHouseFault}
use Rattle.gu_server.specs.Program.{IsPinnedAt, HasBegun}
use Rattle.gu_command.specs.declared.fault.Fault.{Fault}
use Rattle.gu_command.specs.declared.fault.Fault.TheVariants as fault

-- the words' house file has a house table, by which a trace was run
pub traced : {A : Type 0} (words : List Text) (bytes_at journal_at : Text → Option (List ℕ))
    (is_copied : Text → List ℕ → Type 0) (path : Text) (trade : Option ℕ)
    (house : House) (old new : Told) (r : Result A RunError) → command_in words ≡ Some (codes "trace")
    → house_in words ≡ Some path → trade_meant (trade_in words) ≡ Some trade → Names (bytes_at path) (Ok house)
    → Traces house trade old new r → HasDone words bytes_at journal_at is_copied old new r
traced words bytes_at journal_at is_copied path trade house old new r is asked meant named traces =
    inr (inl (record {
      asks = record { path = path; is = is; asked = asked; house = house; named = named };
      trade = trade;
      meant = meant;
      traces = traces;
    }))

-- what a reader and a writer tell
abbrev tells : Option (List ℕ) → ℕ → ℕ → Option (List ℕ) → ℕ → Told
tells left made failed contents writes_failed =
    record { left = left; made = made; reads_failed = failed; contents = contents; writes_failed = writes_failed }

-- the words ask for a server, and firms were served by the house table that they name
pub served_by : (words : List Text) (bytes_at journal_at : Text → Option (List ℕ))
    (is_copied : Text → List ℕ → Type 0) (l : Option (List ℕ)) (x f : ℕ)
    (b c : Option (List ℕ)) (v w : ℕ) (r : Result (Unit {0}) Fault) → (by : Asks (codes "serve") words bytes_at)
    → Serves by.house b c v w r → Does words bytes_at journal_at is_copied (tells l x f b v) (tells l x f c w) r
served_by words bytes_at journal_at is_copied l x f b c v w (Ok done) by (book, served, totals) =
    inr (inr (inl (record { asks = by; book = book; served = served; unread = (refl, refl, refl); totals = totals })))
served_by words bytes_at journal_at is_copied l x f b c v w (Err (fault.Service e)) by (same, never) =
    inl (by, ap (λ y. tells l x f y w) same ∙ ap (λ y. tells l x f b y) never)
served_by words bytes_at journal_at is_copied l x f b c v w (Err (fault.Run e)) by (book, served, totals) =
    inr (
      e,
      refl,
      inr (inr (inl (record {
        asks = by;
        book = book;
        served = served;
        unread = (refl, refl, refl);
        totals = totals;
      }))),
    )
served_by words bytes_at journal_at is_copied l x f b c v w (Err (fault.Journal t)) by h = absurd h
served_by words bytes_at journal_at is_copied l x f b c v w (Err (fault.Keep e)) by h = absurd h
served_by words bytes_at journal_at is_copied l x f b c v w (Err (fault.Usage t)) by h = absurd h
served_by words bytes_at journal_at is_copied l x f b c v w (Err fault.HouseFile) by h = absurd h
served_by words bytes_at journal_at is_copied l x f b c v w (Err (fault.HouseLine e)) by h = absurd h
served_by words bytes_at journal_at is_copied l x f b c v w (Err (fault.NoFirm t)) by h = absurd h

-- the words ask to keep a book, and firms were served by the house table that they name
pub kept_by : (words : List Text) (bytes_at journal_at : Text → Option (List ℕ))
    (is_copied : Text → List ℕ → Type 0) (l : Option (List ℕ)) (x f : ℕ)
    (b c : Option (List ℕ)) (v w : ℕ) (r : Result (Unit {0}) Fault) → (by : Asks (codes "keep") words bytes_at)
    → Keeps by.house b c v w r → Does words bytes_at journal_at is_copied (tells l x f b v) (tells l x f c w) r
kept_by words bytes_at journal_at is_copied l x f b c v w (Ok done) by (book, served, totals) =
    inr (inr (inr (inl (record {
      asks = by;
      book = book;
      served = served;
      unread = (refl, refl, refl);
      totals = totals;
    }))))
kept_by words bytes_at journal_at is_copied l x f b c v w (Err (fault.Journal t)) by (same, never) =
    inl (inl by, ap (λ y. tells l x f y w) same ∙ ap (λ y. tells l x f b y) never)
kept_by words bytes_at journal_at is_copied l x f b c v w (Err (fault.Keep e)) by (same, never) =
    inl (inl by, ap (λ y. tells l x f y w) same ∙ ap (λ y. tells l x f b y) never)
kept_by words bytes_at journal_at is_copied l x f b c v w (Err (fault.Run e)) by (book, served, totals) =
    inr (
      e,
      refl,
      inr (inr (inr (inl (record {
        asks = by;
        book = book;
        served = served;
        unread = (refl, refl, refl);
        totals = totals;
      })))),
    )
kept_by words bytes_at journal_at is_copied l x f b c v w (Err (fault.Usage t)) by h = absurd h
kept_by words bytes_at journal_at is_copied l x f b c v w (Err fault.HouseFile) by h = absurd h
kept_by words bytes_at journal_at is_copied l x f b c v w (Err (fault.HouseLine e)) by h = absurd h
kept_by words bytes_at journal_at is_copied l x f b c v w (Err (fault.NoFirm t)) by h = absurd h
kept_by words bytes_at journal_at is_copied l x f b c v w (Err (fault.Service e)) by h = absurd h

-- something is wrong with the journal of the words, and nothing was read or written
pub refused_by : (words : List Text) (bytes_at journal_at : Text → Option (List ℕ))
    (is_copied : Text → List ℕ → Type 0) (old new : Told) (e : Fault) → AsksOfJournal words bytes_at
    → IsTrue (is_keep_fault e) → new ≡ old → Does {A = Unit {0}} words bytes_at journal_at is_copied old new (Err e)
refused_by words bytes_at journal_at is_copied old new (fault.Journal t) asks is same = inl (asks, same)
refused_by words bytes_at journal_at is_copied old new (fault.Keep e) asks is same = inl (asks, same)
refused_by words bytes_at journal_at is_copied old new (fault.Usage t) asks is same = absurd (false≢true is)
refused_by words bytes_at journal_at is_copied old new fault.HouseFile asks is same = absurd (false≢true is)
refused_by words bytes_at journal_at is_copied old new (fault.HouseLine e) asks is same = absurd (false≢true is)
refused_by words bytes_at journal_at is_copied old new (fault.NoFirm t) asks is same = absurd (false≢true is)
refused_by words bytes_at journal_at is_copied old new (fault.Service e) asks is same = absurd (false≢true is)
refused_by words bytes_at journal_at is_copied old new (fault.Run e) asks is same = absurd (false≢true is)

-- the words ask what a start would say of a journal, which was looked at by the house table that they name
pub verified_by : {A : Type 0} (words : List Text) (bytes_at journal_at : Text → Option (List ℕ)) (l : Option (List ℕ))
    (x f : ℕ) (b c : Option (List ℕ)) (v w : ℕ) (r : Result A RunError) (digest journal : List ℕ) (totals : Bool)
    (trade : Option ℕ) → (by : Asks (codes "verify") words bytes_at) → digest ≡ sha256 by.named.0
    → journal_in words ≡ Some journal → flag_meant (totals_in words) ≡ totals
    → trade_meant (trade_in words) ≡ Some trade → Says by.house digest (journal_at journal) totals trade b c v w r
    → HasVerified words bytes_at journal_at (tells l x f b v) (tells l x f c w) r
verified_by words bytes_at journal_at l x f b c v w r digest journal totals trade by same at flag meant says =
    record {
      asks = by;
      journal = journal;
      named = at;
      trade = trade;
      meant = meant;
      unread = (refl, refl, refl);
      says =
          subst (λ (y : List ℕ). Says by.house y (journal_at journal) (flag_meant (totals_in words)) trade b c v w r)
          same
          (subst (λ (y : Bool). Says by.house digest (journal_at journal) y trade b c v w r) (sym flag) says);
    }

-- the same where it can't be told, which the fault says
pub unverified_by : (words : List Text) (bytes_at journal_at : Text → Option (List ℕ))
    (is_copied : Text → List ℕ → Type 0) (l : Option (List ℕ)) (x f : ℕ)
    (b c : Option (List ℕ)) (v w : ℕ) (e : LookError) (told : Fault) (digest journal : List ℕ) (totals : Bool)
    (trade : Option ℕ) → (by : Asks (codes "verify") words bytes_at) → digest ≡ sha256 by.named.0
    → journal_in words ≡ Some journal → flag_meant (totals_in words) ≡ totals
    → trade_meant (trade_in words) ≡ Some trade
    → Looks {A = Unit {0}} by.house digest (journal_at journal) totals trade b c v w (Err e) → IsFaultOf e told
    → Does {A = Unit {0}} words bytes_at journal_at is_copied (tells l x f b v) (tells l x f c w) (Err told)
unverified_by words bytes_at journal_at is_copied l x f b c v w (look.Unread e) told digest journal totals trade by
    same at flag meant looks is =
    refused_by words bytes_at journal_at is_copied _ _ told (inr (inl by))
    (subst (λ (y : Fault). IsTrue (is_keep_fault y)) (sym is) looks.2)
    (ap (λ y. tells l x f y w) looks.0 ∙ ap (λ y. tells l x f b y) looks.1)
unverified_by words bytes_at journal_at is_copied l x f b c v w (look.Refused e) told digest journal totals trade by
    same at flag meant looks is =
    refused_by words bytes_at journal_at is_copied _ _ told (inr (inl by)) is
    (ap (λ y. tells l x f y w) looks.0 ∙ ap (λ y. tells l x f b y) looks.1)
unverified_by words bytes_at journal_at is_copied l x f b c v w (look.Run e) told digest journal totals trade by
    same at flag meant looks is =
    inr (
      e,
      is,
      inr (inr (inr (inr (inl
          (verified_by words bytes_at journal_at l x f b c v w (Err e) digest journal totals trade by same at flag meant
          looks))))),
    )

-- the words ask for a copy of a journal, which was made, or something was wrong with one of both
pub copied_by : (words : List Text) (bytes_at journal_at : Text → Option (List ℕ))
    (is_copied : Text → List ℕ → Type 0) (journal to : Text) (told : Told) (r : Result (Unit {0}) Fault)
    → command_in words ≡ Some (codes "backup") → journal_in words ≡ Some journal → copy_in words ≡ Some to
    → OnOk r (Copies (journal_at journal) (is_copied to)) → IfErr r (λ e. IsTrue (is_keep_fault e))
    → Does words bytes_at journal_at is_copied told told r
copied_by words bytes_at journal_at is_copied journal to told (Ok done) is at asked copies fault =
    inr (inr (inr (inr (inr (inl (record {
      is = is;
      journal = journal;
      named = at;
      to = to;
      asked = asked;
      copies = copies;
      same = refl;
    }))))))
copied_by words bytes_at journal_at is_copied journal to told (Err e) is at asked copies wrong =
    refused_by words bytes_at journal_at is_copied told told e (inr (inr (inl is))) wrong refl

-- the words' first house file has a house table
abbrev asks_for : (command : Text) (words : List Text) (bytes_at : Text → Option (List ℕ)) (path : Text) (house : House)
    → command_in words ≡ Some command → house_in words ≡ Some path → Names (bytes_at path) (Ok house)
    → Asks command words bytes_at
asks_for command words bytes_at path house is asked named =
    record { path = path; is = is; asked = asked; house = house; named = named }

-- the words ask for a journal to be written anew, which was done, or something was wrong
pub extended_by : (words : List Text) (bytes_at journal_at : Text → Option (List ℕ))
    (is_copied : Text → List ℕ → Type 0) (path larger journal to : Text) (t u : House) (pin new_pin : List ℕ)
    (told : Told) (r : Result (Unit {0}) Fault) → command_in words ≡ Some (codes "extend")
    → house_in words ≡ Some path → larger_in words ≡ Some larger → journal_in words ≡ Some journal
    → copy_in words ≡ Some to → IsPinnedAt (bytes_at path) t pin → IsPinnedAt (bytes_at larger) u new_pin
    → OnOk r (IsWrittenAnew t u pin new_pin (journal_at journal) (is_copied to))
    → IfErr r (λ e. IsTrue (is_keep_fault e)) → Does words bytes_at journal_at is_copied told told r
extended_by words bytes_at journal_at is_copied path larger journal to t u pin new_pin told (Ok done) is asked wider at
    copy old new anew wrong =
    inr (inr (inr (inr (inr (inr (inl (record {
      asks = asks_for (codes "extend") words bytes_at path t is asked old.0;
      larger = larger;
      wider = wider;
      house = u;
      pin = new_pin;
      pinned = new;
      journal = journal;
      named = at;
      to = to;
      asked = copy;
      anew =
          subst (λ (p : List ℕ). IsWrittenAnew t u p new_pin (journal_at journal) (is_copied to)) old.1 anew;
      same = refl;
    })))))))
extended_by words bytes_at journal_at is_copied path larger journal to t u pin new_pin told (Err e) is asked wider at
    copy old new anew wrong =
    refused_by words bytes_at journal_at is_copied told told e
    (inr (inr (inr (inl (asks_for (codes "extend") words bytes_at path t is asked old.0))))) wrong refl

-- nothing was read or written
untouched : {l : Option (List ℕ)} {x f : ℕ} {b c : Option (List ℕ)} {v w : ℕ} → c ≡ b → w ≡ v
    → tells l x f c w ≡ tells l x f b v
untouched {l} {x} {f} {b} {c} {v} {w} same never = ap (λ y. tells l x f y w) same ∙ ap (λ y. tells l x f b y) never

module _ (words : List Text) (bytes_at journal_at : Text → Option (List ℕ)) (is_copied : Text → List ℕ → Type 0)
    (path larger journal to : Text) (is_open : Bool) (t u : House) (pin new_pin : List ℕ)
    (is : command_in words ≡ Some (codes "roll")) (asked : house_in words ≡ Some path)
    (wider : larger_in words ≡ Some larger) (at : journal_in words ≡ Some journal) (copy : copy_in words ≡ Some to)
    (flag : flag_meant (open_in words) ≡ is_open) (old : IsPinnedAt (bytes_at path) t pin)
    (new : IsPinnedAt (bytes_at larger) u new_pin) where
  -- the words ask for a new book
  abbrev asks_to_roll : Asks (codes "roll") words bytes_at
  asks_to_roll = asks_for (codes "roll") words bytes_at path t is asked old.0

  -- it was begun
  has_begun : (l : Option (List ℕ)) (x f : ℕ) (b c : Option (List ℕ)) (v w : ℕ) (r : Result (Unit {0}) RunError)
      → Begins t u pin new_pin (journal_at journal) (keep_meant is_open) (is_copied to) b c v w r
      → HasBegun words bytes_at journal_at is_copied (tells l x f b v) (tells l x f c w) r
  has_begun l x f b c v w r begins = record {
    asks = asks_to_roll;
    larger = larger;
    wider = wider;
    house = u;
    pin = new_pin;
    pinned = new;
    journal = journal;
    named = at;
    to = to;
    asked = copy;
    unread = (refl, refl, refl);
    begins =
        subst (λ (o : Bool).
        Begins t u (sha256 old.0.0) new_pin (journal_at journal) (keep_meant o) (is_copied to) b c v w r) (sym flag)
        (subst (λ (p : List ℕ).
        Begins t u p new_pin (journal_at journal) (keep_meant is_open) (is_copied to) b c v w r) old.1 begins);
  }

  -- something was wrong
  not_begun : (l : Option (List ℕ)) (x f : ℕ) (b c : Option (List ℕ)) (v w : ℕ) (e : Fault) → IsTrue (is_keep_fault e)
      → c ≡ b → w ≡ v
      → Does {A = Unit {0}} words bytes_at journal_at is_copied (tells l x f b v) (tells l x f c w) (Err e)
  not_begun l x f b c v w e wrong same never =
      refused_by words bytes_at journal_at is_copied _ _ e (inr (inr (inr (inr (inl asks_to_roll))))) wrong
      (untouched same never)

  pub begun_by : (l : Option (List ℕ)) (x f : ℕ) (b c : Option (List ℕ)) (v w : ℕ) (r : Result (Unit {0}) Fault)
      → Rolls t u pin new_pin (journal_at journal) (keep_meant is_open) (is_copied to) b c v w r
      → Does words bytes_at journal_at is_copied (tells l x f b v) (tells l x f c w) r
  begun_by l x f b c v w (Ok done) rolls =
      inr (inr (inr (inr (inr (inr (inr (inl (has_begun l x f b c v w (Ok done) rolls))))))))
  begun_by l x f b c v w (Err (fault.Run e)) rolls =
      inr (
        e,
        refl,
        inr (inr (inr (inr (inr (inr (inr (inl (has_begun l x f b c v w (Err e) rolls)))))))),
      )
  begun_by l x f b c v w (Err (fault.Journal t)) rolls = not_begun l x f b c v w _ rolls.2 rolls.0 rolls.1
  begun_by l x f b c v w (Err (fault.Keep e)) rolls = not_begun l x f b c v w _ rolls.2 rolls.0 rolls.1
  begun_by l x f b c v w (Err (fault.Usage t)) rolls = absurd (false≢true rolls.2)
  begun_by l x f b c v w (Err (fault.NoFirm t)) rolls = absurd (false≢true rolls.2)
  begun_by l x f b c v w (Err fault.HouseFile) rolls = absurd (false≢true rolls.2)
  begun_by l x f b c v w (Err (fault.HouseLine e)) rolls = absurd (false≢true rolls.2)
  begun_by l x f b c v w (Err (fault.Service e)) rolls = absurd (false≢true rolls.2)

-- the house file of the words is at fault, and nothing was read or written
pub stopped : (words : List Text) (bytes_at journal_at : Text → Option (List ℕ))
    (is_copied : Text → List ℕ → Type 0) (path : Text) (told : Told) (e : Fault)
    → house_in words ≡ Some path → IsHouseFault (bytes_at path) e
    → Does {A = Unit {0}} words bytes_at journal_at is_copied told told (Err e)
stopped words bytes_at journal_at is_copied path told fault.HouseFile asked is = inl ((path, asked, is), refl)
stopped words bytes_at journal_at is_copied path told (fault.HouseLine e) asked is = inl ((path, asked, is), refl)
stopped words bytes_at journal_at is_copied path told (fault.Run run.Memory) asked is = inl (is, refl)
stopped words bytes_at journal_at is_copied path told (fault.Run (run.Broken at)) asked is = absurd is
stopped words bytes_at journal_at is_copied path told (fault.Run (run.Truncated at)) asked is = absurd is
stopped words bytes_at journal_at is_copied path told (fault.Run run.Read) asked is = absurd is
stopped words bytes_at journal_at is_copied path told (fault.Run run.Write) asked is = absurd is
stopped words bytes_at journal_at is_copied path told (fault.Run (run.NoLiveTrade trade)) asked is = absurd is
stopped words bytes_at journal_at is_copied path told (fault.Usage t) asked is = absurd is
stopped words bytes_at journal_at is_copied path told (fault.NoFirm t) asked is = absurd is
stopped words bytes_at journal_at is_copied path told (fault.Service e) asked is = absurd is
stopped words bytes_at journal_at is_copied path told (fault.Journal t) asked is = absurd is
stopped words bytes_at journal_at is_copied path told (fault.Keep e) asked is = absurd is
