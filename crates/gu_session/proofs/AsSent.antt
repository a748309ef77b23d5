-- Along every list of steps, what is sent again covers its span, and is what was sent.
use Rattle.std.proofs.Common.{◌≡◌, ℕ, ◌≤◌, List, [], ◌∷◌, ◌++◌, map, refl, sym, subst, arith}
use Rattle.std.specs.Prelude.{Option, Some, None, Result, Ok}
use Rattle.std.specs.List.{All}
use Rattle.std.proofs.lemmas.List.Elements.{All-nil, All-cons}
use Rattle.jiff.specs.Types.{Timestamp}
use Rattle.gu_base.specs.House.{House}
use Rattle.gu_base.specs.declared.entry.Answer.{Answer}
use Rattle.gu_base.specs.declared.report.Report.{Report}
use Rattle.gu_codec.specs.Messages.{Message}
use Rattle.gu_message.specs.declared.fault.Reject.{Reject}
use Rattle.gu_message.specs.declared.inbound.Inbound.{Inbound}
use Rattle.gu_message.specs.declared.inbound.Inbound.TheVariants.{Heartbeat}
use Rattle.gu_message.specs.Heading.{heading_of}
use Rattle.gu_message.specs.Meaning.{meaning_of}
use Rattle.gu_session.specs.declared.verdict.Verdict.{Verdict}
use Rattle.gu_session.specs.Going.{Going}
use Rattle.gu_session.specs.Table.{on_tick}
use Rattle.gu_session.specs.Steps.{Seen, Event, Came, Tick, Reply, End, Outcome, Called, kept_from, reply_bodies, fits}
use Rattle.gu_session.specs.Steps.{shut_down, idle, acts, replies, tells, message_verdict, on_event, step_of, opening}
use Rattle.gu_session.specs.Steps.{time_of}
use Rattle.gu_session.specs.Runs.{outcomes, new_of, again_of, CoversSpan, ResendsCoverTheirSpan}
use Rattle.gu_session.proofs.Lines.{Goes, goes_on_message, goes_on_tick}
use Rattle.gu_session.proofs.Sent.{acts_again, tells_new, tells_again}
use Rattle.gu_session.proofs.Stepping.{moves_step}
use Rattle.gu_session.proofs.Runs.{Early}
use Rattle.gu_session.proofs.Resends.{RisesTo, rises_higher, rises_last, covers_span, IsEcho, WasSent, sent_more}
use Rattle.gu_session.proofs.Resends.{at_time, last_sent, resends_again}
use Rattle.gu_base.proofs.Basics.{either_way}

-- each new message that a step sends, with its time
abbrev pub sent_by : Outcome → List (List ℕ × Going)
sent_by o = map (λ m. (o.time, m)) (new_of o.send)

-- along the steps, where this was sent before
abbrev pub AreEchoes : List (List ℕ × Going) → List Outcome → Type 0
AreEchoes sent [] = Unit {0}
AreEchoes sent (o ∷ os) = All (IsEcho sent) (again_of o.send) × AreEchoes (sent ++ sent_by o) os

-- what a step does with the messages that are kept, where these were sent so far
record Keeping (sent : List (List ℕ × Going)) (o : Outcome) : Type 0 where
  pub covers : CoversSpan o.again (again_of o.send)
  pub rises : RisesTo 1 o.after.kept o.after.link.next
  pub again : All (IsEcho sent) (again_of o.send)
  pub was_sent : All (WasSent (sent ++ sent_by o)) o.after.kept

-- nothing is sent, and the messages and their numbers stay
keeping_still : (sent : List (List ℕ × Going)) (s : Seen) (o : Outcome) → RisesTo 1 s.kept s.link.next
    → All (WasSent sent) s.kept → o.send ≡ [] → o.again ≡ None → o.after.kept ≡ s.kept → o.after.link.next ≡ s.link.next
    → Keeping sent o
keeping_still sent s o r w none again kept next = record {
  covers = rw (again, none) refl;
  rises = rw (kept, next) r;
  again = rw none (All-nil (IsEcho sent));
  was_sent = rw kept (sent_more sent (sent_by o) s.kept w);
}

-- what a verdict does
keeping_acts : (sent : List (List ℕ × Going)) (now : Timestamp) (s : Seen) (came : Option Message)
    (call : Option Called) (meaning : Result Inbound Reject) (v : Verdict) → RisesTo 1 s.kept s.link.next
    → All (WasSent sent) s.kept → Goes s.link meaning v → Keeping sent (acts now s came call v)
keeping_acts sent now s came call meaning v r w g =
    let time = time_of now in
    let is = acts_again time s.kept v.resend came s.link.next v.say in
    let le : s.link.next ≤ v.link.next = omega (arith, g.next) in
    record {
      covers = subst (CoversSpan v.resend) (sym is) (covers_span time s.kept v.resend 1 s.link.next r g.span);
      rises = rises_higher 1 s.link.next v.link.next s.kept le r;
      again = subst (All (IsEcho sent)) (sym is) (resends_again sent time s.kept v.resend w);
      was_sent = sent_more sent (sent_by (acts now s came call v)) s.kept w;
    }

-- a Reply, where there is a firm or not
keeping_tells : (sent : List (List ℕ × Going)) (now : Timestamp) (s : Seen) (answer : Option Answer)
    (reports : List Report) → RisesTo 1 s.kept s.link.next → All (WasSent sent) s.kept
    → Keeping sent
    (tells now s (kept_from (time_of now) s.link.next (reply_bodies (time_of now) s.link.waiting answer reports)))
keeping_tells sent now s answer reports r w =
    let time = time_of now in
    let xs = reply_bodies (time_of now) s.link.waiting answer reports in
    let ms = kept_from time s.link.next xs in
    record {
      covers = tells_again ms;
      rises = rises_last 1 s.link.next s.kept time xs r;
      again = subst (All (IsEcho sent)) (sym (tells_again ms)) (All-nil (IsEcho sent));
      was_sent = subst (λ (t : List Going). All (WasSent (sent ++ at_time time t)) (tells now s ms).after.kept)
          (sym (tells_new ms)) (last_sent sent s.kept time s.link.next xs w);
    }

keeping_replies : (sent : List (List ℕ × Going)) (now : Timestamp) (s : Seen) (firm : Option (List ℕ))
    (answer : Option Answer) (reports : List Report) → RisesTo 1 s.kept s.link.next → All (WasSent sent) s.kept
    → Keeping sent (replies now s firm answer reports)
keeping_replies sent now s None answer reports r w = keeping_still sent s (idle now s) r w refl refl refl refl
keeping_replies sent now s (Some firm) answer reports r w = keeping_tells sent now s answer reports r w

-- each event of an open session, and each step
keeping_event : (sent : List (List ℕ × Going)) (now : Timestamp) (s : Seen) (e : Event) → Early s
    → RisesTo 1 s.kept s.link.next → All (WasSent sent) s.kept → Keeping sent (on_event now s e)
keeping_event sent now s (Came fs) early r w =
    keeping_acts sent now s (Some fs) _ (meaning_of s.house.house fs) (message_verdict now s fs) r w
    (goes_on_message now s.house s.link (heading_of s.house.house fs) (meaning_of s.house.house fs) _ early)
keeping_event sent now s Tick early r w =
    let none : Result Inbound Reject = Ok Heartbeat in
    keeping_acts sent now s None None none (on_tick now s.link s.link.firm) r w
    (goes_on_tick now s.link s.link.firm none refl early)
keeping_event sent now s (Reply answer reports) early r w = keeping_replies sent now s s.link.firm answer reports r w
keeping_event sent now s End early r w = keeping_still sent s (shut_down now s) r w refl refl refl refl

keeping_step : (sent : List (List ℕ × Going)) (now : Timestamp) (s : Seen) (e : Event) → Early s
    → RisesTo 1 s.kept s.link.next → All (WasSent sent) s.kept → Keeping sent (step_of now s e)
keeping_step sent now s e early r w =
    either_way (Keeping sent) s.link.closed _ _ (λ _. keeping_still sent s (idle now s) r w refl refl refl refl) (λ _.
    either_way (Keeping sent) (fits (on_event now s e).after.link) _ _ (λ _. keeping_event sent now s e early r w)
    (λ _. keeping_still sent s (shut_down now s) r w refl refl refl refl))

-- ---- along the steps

covered : (sent : List (List ℕ × Going)) (s : Seen) (es : List (Timestamp × Event)) → Early s
    → RisesTo 1 s.kept s.link.next → All (WasSent sent) s.kept
    → All (λ o. CoversSpan o.again (again_of o.send)) (outcomes s es)
covered sent s [] early r w = All-nil (λ (o : Outcome). CoversSpan o.again (again_of o.send))
covered sent s (e ∷ es) early r w =
    let o = step_of e.0 s e.1 in
    let k = keeping_step sent e.0 s e.1 early r w in
    All-cons (λ (o : Outcome). CoversSpan o.again (again_of o.send)) o (outcomes o.after es) k.covers
    (covered (sent ++ sent_by o) o.after es (moves_step e.0 s e.1 early).early k.rises k.was_sent)

echoes : (sent : List (List ℕ × Going)) (s : Seen) (es : List (Timestamp × Event)) → Early s
    → RisesTo 1 s.kept s.link.next → All (WasSent sent) s.kept → AreEchoes sent (outcomes s es)
echoes sent s [] early r w = tt
echoes sent s (e ∷ es) early r w =
    let o = step_of e.0 s e.1 in
    let k = keeping_step sent e.0 s e.1 early r w in
    (k.again, echoes (sent ++ sent_by o) o.after es (moves_step e.0 s e.1 early).early k.rises k.was_sent)

pub resends_cover_their_span : ResendsCoverTheirSpan
resends_cover_their_span t never es =
    covered [] (opening t never) es (omega arith, refl) (omega arith) (All-nil (WasSent []))

pub resends_echo : (t : House) (never : Timestamp) (es : List (Timestamp × Event))
    → AreEchoes [] (outcomes (opening t never) es)
resends_echo t never es = echoes [] (opening t never) es (omega arith, refl) (omega arith) (All-nil (WasSent []))
