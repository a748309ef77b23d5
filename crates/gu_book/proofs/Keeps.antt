-- One more accepted change leaves true what a book keeps.
use Rattle.gu_base.proofs
use Rattle.gu_book.proofs.Vocabulary
use Rattle.std
use proofs.{Accepted.IsAllowed, Basics.{bytes_symm, nothing_here}}
use proofs.Consenting.{left_change, left_decline, left_initiate, left_reverse}
use proofs.LiveLaws.{live_push_change, live_push_consent, live_push_reverse}
use proofs.{Numbered.length_numbered, RunLaws.{IsRun, run_push}}
use Rattle.gu_book.proofs.{ByNumber.named_live, Leaves.without_small, Refused.accepted_small}
use Rattle.gu_book.specs.{Ids.{NoIdTwice, same_id}, Kept.{AcceptedFrom, IsAccepted, IsKept}}
use Rattle.gu_depend.proofs.Vocabulary.{Accepted, answer_to, call_of, consents_left, Decline}
use Rattle.gu_depend.proofs.Vocabulary.{Initiate, initiate_rest, is_consenting, is_same_id, IsRunFrom, refusal_of}
use std.proofs.{Common.length-append, lemmas.{List.Sums.{count_by-le-length, length-filter}, Map.Keys.IsDistinct-push}}
use std.specs.{Cmp.IsEquivalence, List.{IsDistinct, list_any}}
use Vocabulary.{All-nil, All-push, allowed, AllWithinLimits, and_parts}
use Vocabulary.{append-nil, append_assoc, arith, bytes_eq-Decides, bytes_same, change_refused, Command, cond, Consents}
use Vocabulary.{Entry, false, find, given, House, is_change, IsWithinLimits, length, List, live, None, not_reversed}
use Vocabulary.{numbered_as, numbered_from, refl, Reverse, true, [], ℕ, ◌++◌, ◌+◌, ◌==◌, ◌∙◌, ◌∷◌, ◌≡◌, ◌≤◌}

ids_congr : (x y z : Entry) → same_id x y ≡ true → same_id x z ≡ same_id y z
ids_congr x y z h =
    let p = and_parts _ _ h in let g = (bytes_eq-Decides x.id y.id).0 p.1 in
    cc ((bytes_eq-Decides _ y.firm).0 p.0)

ids_symm : (x y : Entry) → same_id x y ≡ same_id y x
ids_symm x y = cc (bytes_symm _ _, bytes_symm _ _)

ids_laws : IsEquivalence same_id
ids_laws = record {
  refl = λ x. rw (bytes_same _, bytes_same _) refl;
  symm = ids_symm;
  congr = ids_congr;
}

id_is_new : (n : ℕ) (e : Entry) (h : List Entry) → find (is_same_id (call_of e)) (numbered_from n h) ≡ None
    → list_any (same_id e) h ≡ false
id_is_new n e [] none = refl
id_is_new n e (d ∷ h) none =
    let p = nothing_here _ (numbered_as n d) (find (is_same_id (call_of e)) (numbered_from (n + 1) h)) none in
    cc (ids_symm e d, id_is_new (n + 1) e h p.1)

accepted_push : (t : House) (before h : List Entry) (e : Entry) → AcceptedFrom t before h
    → answer_to t (before ++ h) (call_of e) ≡ Accepted (length (before ++ h) + 1) e.status
    → AcceptedFrom t before (h ++ e ∷ [])
accepted_push t before [] e all ok = (rw (append-nil before) at ok, tt)
accepted_push t before (d ∷ h) e all ok = (
  all.0,
  accepted_push t _ h e all.1
      (rw (append_assoc before (d ∷ []) h) ok),
)

-- a house that accepts an entry is one
pub is_accepted_in : (t : House) (h : List Entry) (e : Entry) (n : ℕ)
    → answer_to t h (call_of e) ≡ Accepted n e.status → IsAccepted h e n
is_accepted_in t h e n ok = record { house = t; answered = ok }

pub live_few : (h : List Entry) → length (live h) ≤ length h
live_few h = omega (arith, length-filter, count_by-le-length, length_numbered)

module _ {t : House} {h : List Entry} {cs : Consents} (kept : IsKept t h cs) (n : ℕ) (e : Entry)
    (ok : answer_to t h (call_of e) ≡ Accepted n e.status) where
  shown : IsAllowed t h e n
  shown = allowed t h e n ok

  -- what an accepted call leaves true, of any kind
  kept_next : (ds : Consents) → AllWithinLimits (live (h ++ e ∷ []))
      → ((m : ℕ) → given ds m ≡ consents_left (h ++ e ∷ []) m) → IsKept t (h ++ e ∷ []) ds
  kept_next ds small consented =
      let a = shown in
      let before : IsRun t h = record { replayed = kept.replayed; behind = kept.behind } in
      let run = run_push before e n ok in
      record {
        few = omega (arith, length-append h (e ∷ []));
        behind = run.behind;
        replayed = run.replayed;
        within = small;
        accepted = accepted_push t [] h e kept.accepted (cc ok);
        once = IsDistinct-push ids_laws h e kept.once (id_is_new 1 e h a.id);
        consented = consented;
      }

  -- its number is the next, and that of the last entry then
  pub next_number : (n ≡ length h + 1) × (length (h ++ e ∷ []) ≡ n)
  next_number = (omega (arith, shown.number), omega (arith, shown.number, length-append h (e ∷ [])))

  -- ---- a change

  module _ (change : is_change e.command ≡ true) where
    pub live_more : live h ++ numbered_as n e ∷ [] ≡ live (h ++ e ∷ [])
    live_more =
        let numbered : n ≡ 1 + length h = omega (arith, shown.number) in
        cc (live_push_change h e change (kept.behind (1 + length h) (omega arith)))

    pub lawful : refusal_of t (live h) e.firm e.command ≡ None
    lawful = cc (change_refused t h _ _ change, shown.lawful)

    pub kept_change : IsKept t (h ++ e ∷ []) cs
    kept_change =
        kept_next cs
        (rw live_more at (All-push (λ r. IsWithinLimits r.command) (live h) (numbered_as n e) kept.within
        (accepted_small t (live h) e.firm e.command lawful)))
        (λ m. kept.consented m ∙ left_change h e m e.command refl change)

  -- ---- an Initiate or a Decline

  -- a consent is given, or the consents to one reversal are taken back
  pub kept_consents : is_consenting e.command ≡ true → (ds : Consents)
      → ((k m : ℕ) → e.command ≡ Initiate k → given ds m ≡ cond (m == k) (given cs m ++ e.firm ∷ []) (given cs m))
      → ((k m : ℕ) → e.command ≡ Decline k → given ds m ≡ cond (m == k) [] (given cs m)) → IsKept t (h ++ e ∷ []) ds
  kept_consents is ds more less = kept_next ds (rw (← live_push_consent h e is) at kept.within) (told e.command refl is)
    where
      told : (c : Command) → e.command ≡ c → is_consenting c ≡ true → (m : ℕ)
          → given ds m ≡ consents_left (h ++ e ∷ []) m
      told (Initiate k) same is m =
          let named = named_live t h e.firm (initiate_rest h e.firm) k (rw same at shown.lawful) in
          let unreversed = not_reversed k 1 h named.1.unreversed in
          cc (more k m same, kept.consented m, left_initiate h e k m same unreversed)
      told (Decline k) same is m = cc (less k m same, kept.consented m, left_decline h e k m same)
      told _ same is m = absurd (cc)

  -- ---- a Reverse

  pub kept_reverse : (k : ℕ) → e.command ≡ Reverse k → (ds : Consents)
      → ((m : ℕ) → given ds m ≡ cond (m == k) [] (given cs m)) → IsKept t (h ++ e ∷ []) ds
  kept_reverse k same ds less =
      kept_next ds (rw (← live_push_reverse h e k same) at (without_small k (live h) kept.within))
      (λ m. cc (less m, kept.consented m, left_reverse h e k m same))

nothing_twice : NoIdTwice []
unfolding IsDistinct
nothing_twice = tt

pub kept_none : (t : House) (cs : Consents) → ((n : ℕ) → given cs n ≡ []) → IsKept t [] cs
kept_none t cs none = record {
  few = omega arith;
  behind = λ n high. refl;
  replayed = refl;
  within = All-nil (λ r. IsWithinLimits r.command);
  accepted = tt;
  once = nothing_twice;
  consented = none;
}

-- entries that were accepted in turn can be cut anywhere
accepted_cut : (t : House) (done before : List Entry) (e : Entry) (after : List Entry)
    → AcceptedFrom t done (before ++ e ∷ after)
    → answer_to t (done ++ before) (call_of e) ≡ Accepted (length (done ++ before) + 1) e.status
accepted_cut t done [] e after all = rw (append-nil done) all.0
accepted_cut t done (d ∷ before) e after all =
    rw (append_assoc done _ before) at (accepted_cut t (done ++ d ∷ []) before e after all.1)

pub run_from_accepted : (t : House) (h : List Entry) → AcceptedFrom t [] h → IsRunFrom t [] h
run_from_accepted t h all = record {
  begins = (h, refl);
  accepted = λ before after e same _.
      accepted_cut t [] before e after (rw same at all);
}
