-- The answer to a call, and the history after it.
use Rattle.std.specs.Prelude.{ℕ, ◌+◌, Bool, true, false, not, ◌&&◌, nat_lt, if◌then◌else◌, List, []}
use Rattle.std.specs.Prelude.{◌∷◌, ◌++◌, length, find, Option, Some, None, option_map, bytes_eq}
use Rattle.std.specs.Prelude.{◌==◌}
use Rattle.std.specs.List.{list_any}
use Rattle.gu_base.specs.Limits.{most_entries}
use Rattle.gu_base.specs.Same.{same_command}
use Rattle.gu_base.specs.House.{House, knows_firm}
use Rattle.gu_base.specs.History.{records, live, is_change, is_reverse_of}
use Rattle.gu_base.specs.Refusals.{refusal_of, unless, first}
use Rattle.gu_base.specs.Standing.{standing_on}
use Rattle.gu_base.specs.Consents.{parties_of, consents_of, is_among, missing}
use Rattle.gu_base.specs.declared.entry.Record.{Record}
use Rattle.gu_base.specs.declared.entry.Entry.{Entry}
use Rattle.gu_base.specs.declared.entry.Answer.{Answer}
use Rattle.gu_base.specs.declared.entry.Answer.TheVariants.{Accepted, Repeated, Refused}
use Rattle.gu_base.specs.declared.command.Command.{Command}
use Rattle.gu_base.specs.declared.command.Command.TheVariants.{Trade, Split, Claim, Refuse, Cancel}
use Rattle.gu_base.specs.declared.command.Command.TheVariants.{Agree, Raise, Initiate, Decline}
use Rattle.gu_base.specs.declared.command.Command.TheVariants.{Reverse}
use Rattle.gu_base.specs.declared.state.State.{State}
use Rattle.gu_base.specs.declared.state.State.TheVariants.{Held, Offered, Claimed}
use Rattle.gu_base.specs.declared.state.State.TheVariants.{Refused as WasRefused, Cancelled}
use Rattle.gu_base.specs.declared.state.State.TheVariants.{ReversalPending, Reversed}
use Rattle.gu_base.specs.declared.refusal.Refusal.{Refusal}
use Rattle.gu_base.specs.declared.refusal.Refusal.TheVariants.{UnknownFirm, UnknownEntry}
use Rattle.gu_base.specs.declared.refusal.Refusal.TheVariants.{NotAChange, AlreadyReversed}
use Rattle.gu_base.specs.declared.refusal.Refusal.TheVariants.{NotAParty, NeedsConsent, StandsOn}
use Rattle.gu_base.specs.declared.refusal.Refusal.TheVariants.{DuplicateId, BookFull}
use Rattle.gu_base.specs.declared.refusal.Refusal.TheVariants.{AlreadyConsented, NothingPending}
use Rattle.gu_base.specs.declared.command.Part.{Part}

-- who asks, under which id, for what
pub record Call : Type 0 where
  pub firm : List ℕ
  pub id : List ℕ
  pub command : Command

-- the record of this number
abbrev pub entry_of : List Entry → ℕ → Option Record
entry_of h n = find (λ r. r.number == n) (records h)

-- the Reverse that names the entry
abbrev pub reversal_of : List Entry → ℕ → Option Record
reversal_of h n = find (λ r. is_reverse_of n r.command) (records h)

-- the refusals that Initiate, Decline and Reverse share, and then those of their own
abbrev pub on_change : House → List Entry → List ℕ → (Record → Option Refusal) → Option Record
    → Option Refusal
on_change t h by rest None = Some UnknownEntry
on_change t h by rest (Some r) = first (
    unless (is_change r.command) NotAChange
    ∷ option_map (λ v. AlreadyReversed v.number) (reversal_of h r.number)
    ∷ unless (is_among by (parties_of t (live h) r.firm r.command)) NotAParty
    ∷ rest r ∷ [])

-- a firm consents once
abbrev pub initiate_rest : List Entry → List ℕ → Record → Option Refusal
initiate_rest h by r = unless (not (is_among by (consents_of h r.number))) AlreadyConsented

-- no firm is among them
abbrev pub is_empty : List (List ℕ) → Bool
is_empty [] = true
is_empty (x ∷ xs) = false

-- some consent stands
abbrev pub decline_rest : List Entry → Record → Option Refusal
decline_rest h r = unless (not (is_empty (consents_of h r.number))) NothingPending

-- the first party that has not consented, and then the first change that stands on the entry
abbrev pub reverse_rest : House → List Entry → Record → Option Refusal
reverse_rest t h r = first (
    option_map (λ f. NeedsConsent f)
    (missing (parties_of t (live h) r.firm r.command) (consents_of h r.number))
    ∷ option_map (λ n. StandsOn n) (standing_on t (live h) r.number) ∷ [])

-- why the command itself is refused: a change over the live changes, the others over the history
abbrev pub command_refusal : House → List Entry → List ℕ → Command → Option Refusal
command_refusal t h by (Initiate n) =
    first (unless (knows_firm t by) UnknownFirm
    ∷ on_change t h by (initiate_rest h by) (entry_of h n) ∷ [])
command_refusal t h by (Decline n) =
    first
    (unless (knows_firm t by) UnknownFirm ∷ on_change t h by (decline_rest h) (entry_of h n) ∷ [])
command_refusal t h by (Reverse n) =
    first
    (unless (knows_firm t by) UnknownFirm ∷ on_change t h by (reverse_rest t h) (entry_of h n) ∷ [])
command_refusal t h by change = refusal_of t (live h) by change

-- whether some part of a split by this firm goes to another
abbrev pub gives_up : List ℕ → List Part → Bool
gives_up by parts = list_any (λ p. not (bytes_eq p.firm by)) parts

-- the status with which a command of this firm is accepted
abbrev pub status_of : List ℕ → Command → State
status_of by (Trade _ _ _ _ _) = Held
status_of by (Split _ parts) = if gives_up by parts then Offered else Held
status_of by (Claim _ _) = Claimed
status_of by (Refuse _) = WasRefused
status_of by (Cancel _) = Cancelled
status_of by (Agree _ _ _ _) = Held
status_of by (Raise _ _) = Held
status_of by (Initiate _) = ReversalPending
status_of by (Decline _) = Held
status_of by (Reverse _) = Reversed

-- the same firm and id
abbrev pub is_same_id : Call → Record → Bool
is_same_id c r = bytes_eq r.firm c.firm && bytes_eq r.id c.id

-- the same firm, id and command
abbrev pub is_same_call : Call → Record → Bool
is_same_call c r = is_same_id c r && same_command r.command c.command

-- the entry of this number, unless the call is refused
abbrev pub accepted_or : ℕ → State → Option Refusal → Answer
accepted_or number status None = Accepted number status
accepted_or number status (Some r) = Refused r

-- a record of the call itself, then one with its id, and then the answer of the rules
abbrev pub answer_by : Option Record → Option Record → Answer → Answer
answer_by (Some r) duplicate other = Repeated r.number r.status
answer_by None (Some r) other = Refused (DuplicateId r.number)
answer_by None None other = other

-- the book's answer to a call at a history, in the order of the rules
abbrev pub answer_to : House → List Entry → Call → Answer
answer_to t h c =
    answer_by (find (is_same_call c) (records h)) (find (is_same_id c) (records h))
    (accepted_or (length h + 1) (status_of c.firm c.command)
    (first
    (unless (nat_lt (length h) most_entries) BookFull ∷ command_refusal t h c.firm c.command ∷ [])))

-- the history with the call's entry, where this answer accepts it
abbrev pub after_by : List Entry → Call → Answer → List Entry
after_by h c (Accepted number status) =
    h ++ record { firm = c.firm; id = c.id; command = c.command; status = status } ∷ []
after_by h c _ = h

-- the history with the call's record added, where it is accepted
abbrev pub after : House → List Entry → Call → List Entry
after t h c = after_by h c (answer_to t h c)

-- the answer accepts the call
abbrev pub is_accepted : Answer → Bool
is_accepted (Accepted _ _) = true
is_accepted _ = false
