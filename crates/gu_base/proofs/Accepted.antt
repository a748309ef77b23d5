-- What holds where a call is accepted.
use Rattle.std.proofs.Common.{◌≡◌, ℕ, ◌+◌, ◌<◌, Bool, true, false, List, [], ◌∷◌, length, refl, Option}
use Rattle.std.specs.Prelude.{Some, None, find, nat_lt, option_map}
use Rattle.std.proofs.lemmas.Bool.{ltb-true}
use Rattle.gu_base.specs.House.{House}
use Rattle.gu_base.specs.History.{records, is_change, live}
use Rattle.gu_base.specs.Limits.{most_entries}
use Rattle.gu_base.specs.Refusals.{refusal_of, first, unless}
use Rattle.gu_base.specs.Consents.{parties_of, is_among}
use Rattle.gu_base.specs.Answers.{answer_to, answer_by, accepted_or, command_refusal, on_change, reversal_of}
use Rattle.gu_base.specs.Answers.{is_same_id, is_same_call, status_of}
use Rattle.gu_base.specs.Runs.{call_of}
use Rattle.gu_base.specs.declared.command.Command.{Command}
use Rattle.gu_base.specs.declared.command.Command.TheVariants.{Trade, Split, Claim, Refuse, Cancel, Agree, Raise}
use Rattle.gu_base.specs.declared.command.Command.TheVariants.{Initiate, Decline, Reverse}
use Rattle.gu_base.specs.declared.entry.Answer.TheVariants.{Accepted}
use Rattle.gu_base.specs.declared.entry.Entry.{Entry}
use Rattle.gu_base.specs.declared.entry.Record.{Record}
use Rattle.gu_base.specs.declared.refusal.Refusal.{Refusal}
use Rattle.gu_base.specs.declared.refusal.Refusal.TheVariants.{NotAChange, AlreadyReversed, NotAParty, BookFull}
use Rattle.gu_base.specs.declared.state.State.{State}
use Rattle.gu_base.proofs.Basics.{mapped_none}

-- a row without a refusal has none at its first line, and none behind it
pub first_none : (o : Option Refusal) (rest : List (Option Refusal)) → first (o ∷ rest) ≡ None
    → (o ≡ None) × (first rest ≡ None)
first_none None rest h = (refl, h)
first_none (Some r) rest h = absurd (cc)

-- a test that refuses nothing holds
pub unless_none : (b : Bool) (r : Refusal) → unless b r ≡ None → b ≡ true
unless_none true r h = refl
unless_none false r h = cc

-- a call that is accepted has an id of its own, and no refusal
pub accepted_parts : (same dup : Option Record) (number : ℕ) (status : State) (o : Option Refusal) (n : ℕ) (s : State)
    → answer_by same dup (accepted_or number status o) ≡ Accepted n s
    → (dup ≡ None) × ((o ≡ None) × ((n ≡ number) × (s ≡ status)))
accepted_parts (Some r) dup number status o n s h = absurd (cc)
accepted_parts None (Some r) number status o n s h = absurd (cc)
accepted_parts None None number status (Some r) n s h = absurd (cc)
accepted_parts None None number status None n s h = (refl, (refl, ((cc), (cc))))

-- a change is refused by its row
pub change_refused : (t : House) (h : List Entry) (by : List ℕ) (c : Command) → is_change c ≡ true
    → command_refusal t h by c ≡ refusal_of t (live h) by c
change_refused t h by (Trade _ _ _ _ _) e = refl
change_refused t h by (Split _ _) e = refl
change_refused t h by (Claim _ _) e = refl
change_refused t h by (Refuse _) e = refl
change_refused t h by (Cancel _) e = refl
change_refused t h by (Agree _ _ _ _) e = refl
change_refused t h by (Raise _ _) e = refl
change_refused t h by (Initiate _) e = cc
change_refused t h by (Decline _) e = cc
change_refused t h by (Reverse _) e = cc

-- what an accepted call shows
pub record IsAllowed (t : House) (h : List Entry) (e : Entry) (n : ℕ) : Type 0 where
  pub number : n ≡ length h + 1
  pub room : length h < most_entries
  pub id : find (is_same_id (call_of e)) (records h) ≡ None
  pub lawful : command_refusal t h e.firm e.command ≡ None

-- so it is where the answer is Accepted
pub allowed : (t : House) (h : List Entry) (e : Entry) (n : ℕ) → answer_to t h (call_of e) ≡ Accepted n e.status
    → IsAllowed t h e n
allowed t h e n ok =
    let a = accepted_parts (find (is_same_call (call_of e)) (records h)) (find (is_same_id (call_of e)) (records h))
    (length h + 1) (status_of e.firm e.command)
    (first (unless (nat_lt (length h) most_entries) BookFull ∷ command_refusal t h e.firm e.command ∷ [])) n e.status
    ok in
    let b =
    first_none (unless (nat_lt (length h) most_entries) BookFull) (command_refusal t h e.firm e.command ∷ []) a.1.0 in
    let c = first_none (command_refusal t h e.firm e.command) [] b.1 in
    record {
      number = a.1.1.0;
      room = ltb-true (length h) most_entries (unless_none (nat_lt (length h) most_entries) BookFull b.0);
      id = a.0;
      lawful = c.0;
    }

-- a change that an Initiate, a Decline or a Reverse may name
pub record IsOpen (t : House) (h : List Entry) (by : List ℕ) (rest : Record → Option Refusal) (o : Option Record)
    (r : Record) : Type 0 where
  pub found : o ≡ Some r
  pub is : is_change r.command ≡ true
  pub unreversed : reversal_of h r.number ≡ None
  pub party : is_among by (parties_of t (live h) r.firm r.command) ≡ true
  pub own : rest r ≡ None

-- so it is where the command is not refused
pub open_from_none : (t : House) (h : List Entry) (by : List ℕ) (rest : Record → Option Refusal) (o : Option Record)
    → on_change t h by rest o ≡ None → (r : Record) × IsOpen t h by rest o r
open_from_none t h by rest None e = absurd (cc)
open_from_none t h by rest (Some r) e =
    let last = rest r ∷ [] in
    let third = unless (is_among by (parties_of t (live h) r.firm r.command)) NotAParty ∷ last in
    let second = option_map (λ v. AlreadyReversed v.number) (reversal_of h r.number) ∷ third in
    let a = first_none (unless (is_change r.command) NotAChange) second e in
    let b = first_none (option_map (λ v. AlreadyReversed v.number) (reversal_of h r.number)) third a.1 in
    let c = first_none (unless (is_among by (parties_of t (live h) r.firm r.command)) NotAParty) last b.1 in
    let d = first_none (rest r) [] c.1 in (
      r,
      record {
        found = refl;
        is = unless_none (is_change r.command) NotAChange a.0;
        unreversed = mapped_none (λ v. AlreadyReversed v.number) (reversal_of h r.number) b.0;
        party = unless_none (is_among by (parties_of t (live h) r.firm r.command)) NotAParty c.0;
        own = d.0;
      },
    )
