-- What holds of every history that calls make of the empty one.
use Rattle.std.proofs.Common.{◌≡◌, ℕ, ◌+◌, ◌<◌, true, false, ◌||◌, List, [], ◌∷◌, ◌++◌, length, refl, sym, ◌∙◌, ap}
use Rattle.std.proofs.Common.{subst, arith, length-append}
use Rattle.std.specs.Prelude.{None, option_map}
use Rattle.std.proofs.lemmas.Bool.{ne_eqb}
use Rattle.gu_base.specs.House.{House, knows_firm}
use Rattle.gu_base.specs.History.{numbered_as, is_change, is_reverse_of, is_reversed, live}
use Rattle.gu_base.specs.Refusals.{unless}
use Rattle.gu_base.specs.Standing.{first_refused, standing_on}
use Rattle.gu_base.specs.Consents.{parties_of, consents_of, missing, is_consenting}
use Rattle.gu_base.specs.Answers.{Call, answer_to, after, after_by, entry_of, on_change, reverse_rest, command_refusal}
use Rattle.gu_base.specs.Runs.{after_all, call_of}
use Rattle.gu_base.specs.declared.command.Command.{Command}
use Rattle.gu_base.specs.declared.command.Command.TheVariants.{Trade, Split, Claim, Refuse, Cancel, Agree, Raise}
use Rattle.gu_base.specs.declared.command.Command.TheVariants.{Initiate, Decline, Reverse}
use Rattle.gu_base.specs.declared.entry.Answer.{Answer}
use Rattle.gu_base.specs.declared.entry.Answer.TheVariants.{Accepted, Repeated, Refused}
use Rattle.gu_base.specs.declared.entry.Entry.{Entry}
use Rattle.gu_base.specs.declared.refusal.Refusal.TheVariants.{UnknownFirm, NeedsConsent, StandsOn}
use Rattle.gu_base.proofs.Accepted.{first_none, change_refused, allowed, open_from_none}
use Rattle.gu_base.proofs.LegalLaws.{replay_push}
use Rattle.gu_base.proofs.LiveLaws.{change_is_no_reverse, consent_is_no_reverse, reversed_push, live_push_change}
use Rattle.gu_base.proofs.LiveLaws.{live_push_consent, live_push_reverse}
use Rattle.gu_base.proofs.Numbered.{found_at}
use Rattle.gu_base.proofs.Basics.{mapped_none}

-- what an accepted Reverse shows of the entry that it names
pub record IsTaken (t : House) (h : List Entry) (by : List ℕ) (k : ℕ) : Type 0 where
  pub low : k < 1 + length h
  pub free : standing_on t (live h) k ≡ None

-- an accepted Reverse of an entry
pub taken : (t : House) (h : List Entry) (by : List ℕ) (k : ℕ) → command_refusal t h by (Reverse k) ≡ None
    → IsTaken t h by k
taken t h by k e =
    let a =
    first_none (unless (knows_firm t by) UnknownFirm) (on_change t h by (reverse_rest t h) (entry_of h k) ∷ []) e in
    let b = first_none (on_change t h by (reverse_rest t h) (entry_of h k)) [] a.1 in
    let o = open_from_none t h by (reverse_rest t h) (entry_of h k) b.0 in
    let r = o.0 in
    let at = found_at k 1 h r o.1.found in
    let lacks =
    option_map (λ f. NeedsConsent f) (missing (parties_of t (live h) r.firm r.command) (consents_of h r.number)) in
    let stands = option_map (λ n. StandsOn n) (standing_on t (live h) r.number) in
    let c = first_none lacks (stands ∷ []) o.1.own in
    let d = first_none stands [] c.1 in
    let none : standing_on t (live h) r.number ≡ None =
    mapped_none (λ n. StandsOn n) (standing_on t (live h) r.number) d.0 in
    record { low = at.within; free = subst (λ n. standing_on t (live h) n ≡ None) at.number none }

-- what holds of each history that calls made of the empty one
pub record IsRun (t : House) (h : List Entry) : Type 0 where
  pub replayed : first_refused t [] (live h) ≡ None
  pub behind : (n : ℕ) → length h < n → is_reversed h n ≡ false

-- no Reverse names what is not there yet
pub behind_push : (h : List Entry) (e : Entry) → ((n : ℕ) → length h < n → is_reversed h n ≡ false)
    → ((n : ℕ) → 1 + length h < n → is_reverse_of n e.command ≡ false) → (n : ℕ) → length (h ++ e ∷ []) < n
    → is_reversed (h ++ e ∷ []) n ≡ false
behind_push h e behind own n high =
    let longer = length-append h (e ∷ []) in
    reversed_push h e n
    ∙ (ap (λ b. b || is_reverse_of n e.command) (behind n (omega (arith, longer))) ∙ own n (omega (arith, longer)))

module _ {t : House} {h : List Entry} (run : IsRun t h) (e : Entry) (n : ℕ)
    (ok : answer_to t h (call_of e) ≡ Accepted n e.status) where
  -- ---- one entry more, by its command

  push_change : is_change e.command ≡ true → IsRun t (h ++ e ∷ [])
  push_change change =
      let a = allowed t h e n ok in
      let more = live_push_change h e change (run.behind (1 + length h) (omega arith)) in
      record {
        replayed = ap (first_refused t []) more
            ∙ replay_push t [] (live h) (numbered_as (1 + length h) e) run.replayed
            (sym (change_refused t h e.firm e.command change) ∙ a.lawful);
        behind = behind_push h e run.behind (λ m high. change_is_no_reverse m e.command change);
      }

  push_consent : is_consenting e.command ≡ true → IsRun t (h ++ e ∷ [])
  push_consent consent = record {
    replayed = ap (first_refused t []) (live_push_consent h e consent) ∙ run.replayed;
    behind = behind_push h e run.behind (λ m high. consent_is_no_reverse m e.command consent);
  }

  push_reverse : (k : ℕ) → e.command ≡ Reverse k → IsRun t (h ++ e ∷ [])
  push_reverse k same =
      let a = allowed t h e n ok in
      let b = taken t h e.firm k (subst (λ c. command_refusal t h e.firm c ≡ None) same a.lawful) in
      let low : k < 1 + length h = b.low in
      record {
        replayed = ap (first_refused t []) (live_push_reverse h e k same) ∙ b.free;
        behind = behind_push h e run.behind (λ m high. ap (is_reverse_of m) same ∙ ne_eqb k m (λ q. omega arith));
      }

  push_any : (c : Command) → e.command ≡ c → IsRun t (h ++ e ∷ [])
  push_any (Trade _ _ _ _ _) same = push_change (ap is_change same)
  push_any (Split _ _) same = push_change (ap is_change same)
  push_any (Claim _ _) same = push_change (ap is_change same)
  push_any (Refuse _) same = push_change (ap is_change same)
  push_any (Cancel _) same = push_change (ap is_change same)
  push_any (Agree _ _ _ _) same = push_change (ap is_change same)
  push_any (Raise _ _) same = push_change (ap is_change same)
  push_any (Initiate _) same = push_consent (ap is_consenting same)
  push_any (Decline _) same = push_consent (ap is_consenting same)
  push_any (Reverse k) same = push_reverse k same

  pub run_push : IsRun t (h ++ e ∷ [])
  run_push = push_any e.command refl

-- ---- from the empty history on

pub run_none : (t : House) → IsRun t []
run_none t = record { replayed = refl; behind = λ n high. refl }

-- after a call, accepted or not
run_step : (t : House) (h : List Entry) (c : Call) (a : Answer) → answer_to t h c ≡ a → IsRun t h
    → IsRun t (after_by h c a)
run_step t h c (Accepted n s) ok run =
    run_push run (record { firm = c.firm; id = c.id; command = c.command; status = s }) n ok
run_step t h c (Repeated n s) ok run = run
run_step t h c (Refused r) ok run = run

pub run_on : (t : House) (h : List Entry) (calls : List Call) → IsRun t h → IsRun t (after_all t h calls)
run_on t h [] run = run
run_on t h (c ∷ calls) run = run_on t (after t h c) calls (run_step t h c (answer_to t h c) refl run)

pub run_all : (t : House) (calls : List Call) → IsRun t (after_all t [] calls)
run_all t calls = run_on t [] calls (run_none t)
