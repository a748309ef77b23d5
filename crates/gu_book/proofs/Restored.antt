-- What a reversal does over any list of calls.
use Rattle.gu_book.proofs
use Rattle.gu_depend
use gu_depend.proofs.{StandsLast.replay_on, Vocabulary.{Accepted, after, after_all, after_by, Answer, answer_to}}
use gu_depend.proofs.Vocabulary.{call_of, cond_both, is_accepted, is_consenting, IsRunFrom, replay_front, standing_on}
use proofs.{Leaves.live_rises, Sound.rises_at, Vocabulary.{All, All-head, All-tail, and_parts, append-nil}}
use proofs.Vocabulary.{append_assoc, arith, Call, Entry, first_refused, gone, House, legal_from_replay, length}
use proofs.Vocabulary.{List, live, map, None, number_once, numbered_as, Record, refl, rises_above, rises_distinct}
use proofs.Vocabulary.{run_all, same_Some, Some, subst, sym, true, [], ℕ, ◌++◌, ◌+◌, ◌<◌, ◌∙◌, ◌∷◌, ◌≡◌, ◌≤◌}
use Rattle.gu_base.proofs.LiveLaws.{live_below, live_push_change, live_push_consent, live_push_reverse, without_last}
use Rattle.{gu_book.specs.Headline.{IsLawful, Restores, StandsLater, TakesOut}, std.specs.List.list_all}

pub lawful : (t : House) → IsLawful t
lawful t calls = legal_from_replay t _ ((run_all t calls).replayed)

-- a history that calls made is made again by the calls that its entries keep
remade : (t : House) (h : List Entry) → IsRunFrom t [] h → (before rest : List Entry) → h ≡ before ++ rest
    → after_all t before (map call_of rest) ≡ h
remade t h run before [] e = sym (e ∙ append-nil before)
remade t h run before (x ∷ rest) e =
    cc (
      run.accepted before rest x e (omega arith),
      remade t h run (before ++ x ∷ []) rest
          (e ∙ sym (append_assoc before (x ∷ []) rest)),
    )

pub made_again : (t : House) (h : List Entry) → IsRunFrom t [] h → after_all t [] (map call_of h) ≡ h
made_again t h run = remade t h run [] h refl

after_more : (t : House) (h : List Entry) (cs ds : List Call)
    → after_all t h (cs ++ ds) ≡ after_all t (after_all t h cs) ds
after_more t h [] ds = refl
after_more t h (c ∷ cs) ds = after_more t (after t h c) cs ds

-- an accepted answer, and the entry that it adds
pub record IsAdded (t : House) (h : List Entry) (c : Call) (e : Entry) : Type 0 where
  pub command : e.command ≡ c.command
  pub longer : after t h c ≡ h ++ e ∷ []

added : (t : House) (h : List Entry) (c : Call) (a : Answer) → answer_to t h c ≡ a → is_accepted a ≡ true
    → (e : Entry) × IsAdded t h c e
added t h c (Accepted n s) same ok = (
  record { firm = c.firm; id = c.id; command = c.command; status = s },
  record { command = refl; longer = cc },
)
added t h c _ same ok = absurd (cc)

pub takes_out : (t : House) → TakesOut t
takes_out t calls reversal k same ok =
    let h = after_all t [] calls in
    let a = added t h _ _ refl ok in
    cc (after_more t [] calls (reversal ∷ []), live_push_reverse h a.0 k (cc))

-- Initiates and Declines leave the live changes
consent_step : (h : List Entry) (c : Call) (a : Answer) → is_consenting c.command ≡ true
    → live (after_by h c a) ≡ live h
consent_step h c (Accepted n s) consent = live_push_consent h _ consent
consent_step h c _ consent = refl

consents_keep : (t : House) (h : List Entry) (cs : List Call) → list_all (λ c. is_consenting c.command) cs ≡ true
    → live (after_all t h cs) ≡ live h
consents_keep t h [] all = refl
consents_keep t h (c ∷ cs) all =
    let p = and_parts _ _ all in
    consents_keep t (after t h c) cs p.1 ∙ consent_step h c (answer_to t h c) p.0

pub restores : (t : House) → Restores t
restores t calls between change reversal is ok consents names undone =
    let h = after_all t [] calls in
    let run = run_all t calls in
    let a = added t h change _ refl ok in
    let e = a.0 in
    let more = live_push_change h e (cc) (run.behind _ (omega arith)) in
    let longer : live (after_all t [] (calls ++ change ∷ between)) ≡ live h ++ numbered_as (1 + length h) e ∷ [] =
    cc (after_more t [] calls _, consents_keep t _ between consents) in
    cc (
      takes_out t (calls ++ change ∷ between) reversal (length h + 1) names undone,
      without_last (length h + 1) (live h) (numbered_as (1 + length h) e) (omega arith)
          (subst (λ k. All (λ (r : Record). r.number < k) (live h)) (omega arith) (live_below h)),
    )

-- nothing stands on the newest of the live changes
abbrev pub NewestIsFree : House → Type 0
NewestIsFree t =
    (calls : List Call) (before : List Record) (r : Record) → live (after_all t [] calls) ≡ before ++ r ∷ []
    → standing_on t (live (after_all t [] calls)) r.number ≡ None

pub newest_is_free : (t : House) → NewestIsFree t
newest_is_free t calls before r same =
    let h = after_all t [] calls in
    let run = run_all t calls in
    let order = rises_at 1 before r [] (rw same at (live_rises h)) in
    cc (
      without_last r.number before r refl order.lower,
      replay_front t [] before (r ∷ [])
          (rw same at run.replayed),
    )

-- ---- what stands on a change is later

refused_above : (t : House) (k : ℕ) (done l : List Record) (n : ℕ) → All (λ d. k ≤ d.number) l
    → first_refused t done l ≡ Some n → k ≤ n
refused_above t k done [] n all h = absurd (cc)
refused_above t k done (d ∷ l) n all h =
    cond_both _ _ (first_refused t (done ++ d ∷ []) l) (λ o. o ≡ Some n → k ≤ n)
    (λ refused e. rw (same_Some d.number n e) at (All-head (λ (d : Record). k ≤ d.number) d l all))
    (λ accepted later. refused_above t k (done ++ d ∷ []) l n (All-tail (λ (d : Record). k ≤ d.number) d l all) later) h

pub stands_later : (t : House) → StandsLater t
stands_later t calls before after r n same stands =
    let l : List Record = before ++ r ∷ after in
    let rises = rw same at (live_rises (after_all t [] calls)) in
    let none = rw same at (run_all t calls).replayed in
    let others = gone t before r after (record { once = number_once l (rises_distinct 1 l rises); replayed = none }) in
    let high = refused_above t _ before after n (rises_above _ after (rises_at 1 before r after rises).higher)
    (cc (replay_on t [] before after (replay_front t [] before _ none))) in
    omega arith
