-- A reversal for which all is ready is accepted, and what a refused one names.
use Rattle.gu_book.proofs.Vocabulary
use Rattle.gu_depend.proofs
use proofs.{Finds.not_both, Vocabulary.accepted_or}
use proofs.Vocabulary.{after_all, AlreadyReversed, answer_by, answer_to, BookFull, command_refusal, consents_of}
use proofs.Vocabulary.{DuplicateId, initiate_rest, is_reversed, knows_firm, missing, NeedsConsent, no_some, NotAChange}
use proofs.Vocabulary.{NotAParty, Refusal, reverse_rest, Reversed, standing_on, StandsOn, State, UnknownFirm, unless}
use Rattle.gu_base.proofs.{LegalLaws.first_refused_cut, Numbered.listed, Opening.{answer_is, knows_itself}}
use Rattle.gu_base.specs.declared.entry.Answer.TheVariants.{Refused}
use Rattle.gu_book.proofs.{ByNumber.reversed_some, LastRefusal.live_row, LookedUp.no_call, Parties.parties_pass}
use Rattle.gu_book.proofs.{Placed.{change_known, firms_known}, Restored.newest_is_free, Within.mapped_has}
use Rattle.gu_book.specs.Headline.{IsAcceptedWhereReady, IsConsentAccepted, IsNamed, IsNewestUndone, NamedBy}
use Rattle.std.proofs.lemmas.{Bool.{lt-ltb, not-true}, List.Sums.AllPass-from_list_all}
use Vocabulary.{AllByRecursion, and_parts, any_found, ap, Bool, bytes_eq, bytes_eq-Decides, Call, Entry}
use Vocabulary.{entry_of, false, find_has, find_passes, first, found_at, House, IfSome, inl, inr, is_among, is_change}
use Vocabulary.{is_live, IsLiveAt, length, List, live, nat_lt, None, not, on_change, Option, option_map, parties_of}
use Vocabulary.{Record, records, refl, reversal_of, Reverse, run_all, Some, true, [], ℕ, ◌++◌, ◌∷◌, ◌≡◌, ◌⊎◌}

-- a party of a live change is a firm of the house table
party_known : (t : House) (calls : List Call) (before after : List Record) (r : Record) (by : List ℕ)
    → live (after_all t [] calls) ≡ before ++ r ∷ after
    → is_among by (parties_of t (live (after_all t [] calls)) r.firm r.command) ≡ true → knows_firm t by ≡ true
party_known t calls before after r by same party =
    let l = live (after_all t [] calls) in
    let replayed = (run_all t calls).replayed in
    let known = change_known t before r (first_refused_cut t [] before r after (rw same at replayed)) in
    let pass = parties_pass (knows_firm t) t l r.firm r.command (knows_itself t) known.by known.named
    (firms_known t l replayed) in
    let firms = parties_of t l r.firm r.command in
    let f = any_found (bytes_eq by) firms party in
    rw ((bytes_eq-Decides by f.0).0 (find_passes (bytes_eq by) firms f.0 f.1))
    (find_has (λ f. knows_firm t f ≡ true) (bytes_eq by) firms f.0 (AllPass-from_list_all _ _ pass) f.1)

-- ---- a reversal that nothing refuses

-- the row of a party that names a live change is clear where what is left of it is
row_clear : (t : House) (calls : List Call) (before after : List Record) (r : Record) (by : List ℕ)
    (rest : Record → Option Refusal) → live (after_all t [] calls) ≡ before ++ r ∷ after
    → is_among by (parties_of t (live (after_all t [] calls)) r.firm r.command) ≡ true → rest r ≡ None
    → first (unless (knows_firm t by) UnknownFirm
    ∷ on_change t (after_all t [] calls) by rest (entry_of (after_all t [] calls) r.number) ∷ []) ≡ None
row_clear t calls before after r by rest same party clear =
    let h = after_all t [] calls in
    let at = listed (is_live h) 1 h r before after same in
    let passes = and_parts (is_change r.command) (not (is_reversed h r.number)) at.passes in
    let live_there : IsLiveAt h r.number r = record {
      there = at.found;
      number = refl;
      change = passes.0;
      unreversed = no_some (reversal_of h r.number) (λ v e.
          let reversed = reversed_some h r.number v.number (ap (option_map (λ (d : Record). d.number)) e) in
          not_both _ reversed (not-true _ passes.1));
    } in
    rw (party_known t calls before after r by same party, live_row t h r.number r live_there by rest, party, clear) refl

pub accepted_where_ready : (t : House) → IsAcceptedWhereReady t
accepted_where_ready t calls before after r by id same ready fresh room =
    let h = after_all t [] calls in
    let clear : reverse_rest t h r ≡ None = rw (ready.agreed, ready.free) refl in
    answer_is _ _ _ _ _ _ (no_call _ (records h) fresh) fresh (lt-ltb (length h) 1000000 room)
    (row_clear t calls before after r by (reverse_rest t h) same ready.party clear)

pub consent_accepted : (t : House) → IsConsentAccepted t
consent_accepted t calls before after r by id same party lacks fresh room =
    let h = after_all t [] calls in
    let clear : initiate_rest h by r ≡ None = rw lacks refl in
    answer_is _ _ _ _ _ _ (no_call _ (records h) fresh) fresh (lt-ltb (length h) 1000000 room)
    (row_clear t calls before after r by (initiate_rest h by) same party clear)

pub newest_undone : (t : House) → IsNewestUndone t
newest_undone t calls before r by id same party agreed fresh room =
    accepted_where_ready t calls before [] r by id same
    (record { party = party; agreed = agreed; free = newest_is_free t calls before r same }) fresh room

-- ---- what a refused reversal names

refused_by : (same dup : Option Record) (number : ℕ) (status : State) (o : Option Refusal) (x : Refusal)
    → answer_by same dup (accepted_or number status o) ≡ Refused x → ((n : ℕ) × (DuplicateId n ≡ x)) ⊎ (o ≡ Some x)
refused_by (Some r) dup number status o x h = absurd (cc)
refused_by None (Some r) number status o x h = inl (r.number, cc)
refused_by None None number status None x h = absurd (cc)
refused_by None None number status (Some y) x h = inr (cc)

-- what each refusal has that a line of a row may give, the one has that the row gives
of_row : (P : Refusal → Type 0) (row : List (Option Refusal)) → AllByRecursion (λ o. IfSome o P) row
    → IfSome (first row) P
of_row P [] each = tt
of_row P (None ∷ row) each = of_row P row each.1
of_row P (Some x ∷ row) each = each.0

of_unless : (P : Refusal → Type 0) (b : Bool) (x : Refusal) → P x → IfSome (unless b x) P
of_unless P true x has = tt
of_unless P false x has = has

module _ (t : House) (h : List Entry) (by : List ℕ) (k : ℕ) where
  named_rest : (r : Record) → entry_of h k ≡ Some r → IfSome (reverse_rest t h r) (NamedBy t h k)
  named_rest r at =
      let number = (found_at k 1 h r at).number in
      let lack = missing (parties_of t (live h) r.firm r.command) (consents_of h r.number) in
      let on = standing_on t (live h) r.number in
      of_row (NamedBy t h k) (option_map (λ f. NeedsConsent f) lack ∷ option_map (λ n. StandsOn n) on ∷ []) (
        mapped_has (NamedBy t h k) (λ f. NeedsConsent f) lack (λ f is. (
          r,
          at,
          rw number at is,
        )),
        (
          mapped_has (NamedBy t h k) (λ n. StandsOn n) on
              (λ n is. rw number at is),
          tt,
        ),
      )

  named_change : (o : Option Record) → entry_of h k ≡ o → IfSome (on_change t h by (reverse_rest t h) o) (NamedBy t h k)
  named_change None at = tt
  named_change (Some r) at =
      let party = is_among by (parties_of t (live h) r.firm r.command) in
      of_row _
      (unless (is_change r.command) NotAChange ∷ option_map (λ v. AlreadyReversed v.number) (reversal_of h r.number)
      ∷ unless party NotAParty ∷ reverse_rest t h r ∷ []) (
        of_unless (NamedBy t h k) (is_change r.command) NotAChange tt,
        (
          mapped_has (NamedBy t h k) (λ v. AlreadyReversed v.number) (reversal_of h r.number) (λ v e. tt),
          (of_unless (NamedBy t h k) party NotAParty tt, (named_rest r at, tt)),
        ),
      )

  named_row : IfSome (first (unless (nat_lt (length h) 1000000) BookFull ∷ command_refusal t h by (Reverse k) ∷ []))
      (NamedBy t h k)
  named_row =
      let change = on_change t h by (reverse_rest t h) (entry_of h k) in
      of_row (NamedBy t h k) (unless (nat_lt (length h) 1000000) BookFull ∷ command_refusal t h by (Reverse k) ∷ []) (
        of_unless (NamedBy t h k) (nat_lt (length h) 1000000) BookFull tt,
        (
          of_row (NamedBy t h k) (unless (knows_firm t by) UnknownFirm ∷ change ∷ [])
              (of_unless (NamedBy t h k) (knows_firm t by) UnknownFirm tt, (named_change (entry_of h k) refl, tt)),
          tt,
        ),
      )

  pub named_at : (x : Refusal) (id : List ℕ)
      → answer_to t h (record { firm = by; id = id; command = Reverse k }) ≡ Refused x → NamedBy t h k x
  named_at x id e =
      let call : Call = record { firm = by; id = id; command = Reverse k } in
      elim (refused_by _ _ _
      Reversed _ x e) [
        | inl known ↦ rw (← known.1) tt
        | inr why ↦ rw why at named_row
      ]

pub named : (t : House) → IsNamed t
named t calls by id k x e = named_at t _ by k x id e
