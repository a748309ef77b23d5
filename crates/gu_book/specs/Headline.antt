-- The headline in definitions, over any list of calls from the empty history. The clauses of `laws`
-- say that they hold, sentence by sentence.
use Rattle.std.specs.Prelude.{◌≡◌, ℕ, ◌+◌, ◌<◌, true, false, List, [], ◌∷◌, ◌++◌, length, find}
use Rattle.std.specs.Prelude.{Some, None}
use Rattle.std.specs.List.{list_all}
use Rattle.gu_base.specs.Limits.{most_entries}
use Rattle.gu_base.specs.House.{House}
use Rattle.gu_base.specs.History.{records, live, is_change}
use Rattle.gu_base.specs.Standing.{IsLegal, standing_on, without}
use Rattle.gu_base.specs.Consents.{parties_of, consents_of, is_among, is_consenting, missing}
use Rattle.gu_base.specs.Answers.{Call, answer_to, entry_of, is_same_id, is_accepted}
use Rattle.gu_base.specs.Runs.{after_all}
use Rattle.gu_base.specs.declared.command.Command.TheVariants.{Initiate, Reverse}
use Rattle.gu_base.specs.declared.entry.Answer.TheVariants.{Accepted, Refused}
use Rattle.gu_base.specs.declared.entry.Entry.{Entry}
use Rattle.gu_base.specs.declared.entry.Record.{Record}
use Rattle.gu_base.specs.declared.refusal.Refusal.{Refusal}
use Rattle.gu_base.specs.declared.refusal.Refusal.TheVariants.{UnknownFirm, UnknownEntry}
use Rattle.gu_base.specs.declared.refusal.Refusal.TheVariants.{NotAChange, AlreadyReversed}
use Rattle.gu_base.specs.declared.refusal.Refusal.TheVariants.{NotAParty, NeedsConsent, StandsOn}
use Rattle.gu_base.specs.declared.refusal.Refusal.TheVariants.{DuplicateId, BookFull}
use Rattle.gu_base.specs.declared.state.State.TheVariants.{ReversalPending, Reversed}

-- ---- what the live changes alone give from the empty book

-- each live change is accepted after the live changes before it
abbrev pub IsLawful : House → Type 0
IsLawful t = (calls : List Call) → IsLegal t (live (after_all t [] calls))

-- ---- an accepted change followed by its reversal

-- an accepted change and its accepted reversal, with Initiates and Declines alone between them,
-- leave the live changes as they were
abbrev pub Restores : House → Type 0
Restores t = (calls between : List Call) (change reversal : Call) → is_change change.command ≡ true
    → is_accepted (answer_to t (after_all t [] calls) change) ≡ true
    → list_all (λ c. is_consenting c.command) between ≡ true
    → reversal.command ≡ Reverse (length (after_all t [] calls) + 1)
    → is_accepted (answer_to t (after_all t [] (calls ++ change ∷ between)) reversal) ≡ true
    → live (after_all t [] ((calls ++ change ∷ between) ++ reversal ∷ []))
    ≡ live (after_all t [] calls)

-- whatever came between, an accepted reversal takes its change out of the live changes, and nothing
-- else
abbrev pub TakesOut : House → Type 0
TakesOut t = (calls : List Call) (reversal : Call) (k : ℕ) → reversal.command ≡ Reverse k
    → is_accepted (answer_to t (after_all t [] calls) reversal) ≡ true
    → live (after_all t [] (calls ++ reversal ∷ [])) ≡ without (live (after_all t [] calls)) k

-- ---- what can be undone

-- the firm may ask for the reversal of the change, all parties consent to it, and nothing stands on
-- it
pub record IsReady (t : House) (h : List Entry) (by : List ℕ) (r : Record) : Type 0 where
  pub party : is_among by (parties_of t (live h) r.firm r.command) ≡ true
  pub agreed : missing (parties_of t (live h) r.firm r.command) (consents_of h r.number) ≡ None
  pub free : standing_on t (live h) r.number ≡ None

-- the reversal of a live change for which all is ready is accepted, save where the id is used or
-- the history is full
abbrev pub IsAcceptedWhereReady : House → Type 0
IsAcceptedWhereReady t = (calls : List Call) (before after : List Record) (r : Record)
    (by id : List ℕ) → live (after_all t [] calls) ≡ before ++ r ∷ after
    → IsReady t (after_all t [] calls) by r
    → find (is_same_id (record { firm = by; id = id; command = Reverse r.number }))
    (records (after_all t [] calls)) ≡ None → length (after_all t [] calls) < most_entries
    → answer_to t (after_all t [] calls) (record { firm = by; id = id; command = Reverse r.number })
    ≡ Accepted (length (after_all t [] calls) + 1) Reversed

-- a party that hasn't consented to the reversal of a live change may consent, save where the id is
-- used or the history is full
abbrev pub IsConsentAccepted : House → Type 0
IsConsentAccepted t = (calls : List Call) (before after : List Record) (r : Record) (by id : List ℕ)
    → live (after_all t [] calls) ≡ before ++ r ∷ after
    → is_among by (parties_of t (live (after_all t [] calls)) r.firm r.command) ≡ true
    → is_among by (consents_of (after_all t [] calls) r.number) ≡ false
    → find (is_same_id (record { firm = by; id = id; command = Initiate r.number }))
    (records (after_all t [] calls)) ≡ None → length (after_all t [] calls) < most_entries
    → answer_to t (after_all t [] calls) (record {
      firm = by;
      id = id;
      command = Initiate r.number;
    }) ≡ Accepted (length (after_all t [] calls) + 1) ReversalPending

-- with the consents of its parties the newest live change is undone, save where the id is used or
-- the history is full
abbrev pub IsNewestUndone : House → Type 0
IsNewestUndone t = (calls : List Call) (before : List Record) (r : Record) (by id : List ℕ)
    → live (after_all t [] calls) ≡ before ++ r ∷ []
    → is_among by (parties_of t (live (after_all t [] calls)) r.firm r.command) ≡ true
    → missing (parties_of t (live (after_all t [] calls)) r.firm r.command)
    (consents_of (after_all t [] calls) r.number) ≡ None
    → find (is_same_id (record { firm = by; id = id; command = Reverse r.number }))
    (records (after_all t [] calls)) ≡ None → length (after_all t [] calls) < most_entries
    → answer_to t (after_all t [] calls) (record { firm = by; id = id; command = Reverse r.number })
    ≡ Accepted (length (after_all t [] calls) + 1) Reversed

-- ---- what a refused reversal names

-- what stands on a live change is later than it
abbrev pub StandsLater : House → Type 0
StandsLater t = (calls : List Call) (before after : List Record) (r : Record) (n : ℕ)
    → live (after_all t [] calls) ≡ before ++ r ∷ after
    → standing_on t (live (after_all t [] calls)) r.number ≡ Some n → r.number < n

-- the first party that lacks, of the entry of this number
abbrev pub Lacks : House → List Entry → ℕ → List ℕ → Type 0
Lacks t h k firm = (r : Record) × (entry_of h k ≡ Some r)
    × (missing (parties_of t (live h) r.firm r.command) (consents_of h k) ≡ Some firm)

-- what the refusal of a reversal of this entry names; no other refusal comes out of one
abbrev pub NamedBy : House → List Entry → ℕ → Refusal → Type 0
NamedBy t h k (NeedsConsent firm) = Lacks t h k firm
NamedBy t h k (StandsOn n) = standing_on t (live h) k ≡ Some n
NamedBy t h k (DuplicateId _) = Unit {0}
NamedBy t h k BookFull = Unit {0}
NamedBy t h k UnknownFirm = Unit {0}
NamedBy t h k UnknownEntry = Unit {0}
NamedBy t h k NotAChange = Unit {0}
NamedBy t h k (AlreadyReversed _) = Unit {0}
NamedBy t h k NotAParty = Unit {0}
NamedBy t h k _ = ⊥

abbrev pub IsNamed : House → Type 0
IsNamed t = (calls : List Call) (by id : List ℕ) (k : ℕ) (x : Refusal)
    → answer_to t (after_all t [] calls) (record { firm = by; id = id; command = Reverse k })
    ≡ Refused x → NamedBy t (after_all t [] calls) k x
