-- What a step keeps.
use Rattle.std.proofs.Common.{◌≡◌, ℕ, ◌+◌, ◌<◌, ◌≤◌, Bool, true, false, List, [], ◌∷◌, ◌++◌, length, map, refl, sym, ap}
use Rattle.std.proofs.Common.{◌∙◌, arith}
use Rattle.std.specs.Prelude.{Option, Some, None, Result, Ok, Err, IfSome, option_map}
use Rattle.jiff.specs.Types.{Timestamp}
use Rattle.gu_base.specs.declared.entry.Answer.{Answer}
use Rattle.gu_base.specs.declared.report.Report.{Report}
use Rattle.gu_codec.specs.Messages.{Message}
use Rattle.gu_message.specs.declared.fault.Reject.{Reject}
use Rattle.gu_message.specs.declared.inbound.Inbound.{Inbound}
use Rattle.gu_message.specs.declared.inbound.Inbound.TheVariants as inbound
use Rattle.gu_message.specs.Heading.{heading_of}
use Rattle.gu_message.specs.Meaning.{meaning_of}
use Rattle.gu_session.specs.declared.kept.AppType.{AppType}
use Rattle.gu_session.specs.declared.link.Waiting.{Waiting}
use Rattle.gu_session.specs.declared.verdict.Say.{Say}
use Rattle.gu_session.specs.declared.verdict.Verdict.{Verdict}
use Rattle.gu_session.specs.Going.{Going}
use Rattle.gu_session.specs.Steps.{Seen, Event, Came, Tick, Reply, End, Outcome, where_it_fits, resends, sayings}
use Rattle.gu_session.specs.Steps.{kept_from, reply_bodies, new, fits, shut_down, idle, call_of, acts, tells, replies}
use Rattle.gu_session.specs.Steps.{message_verdict, on_event, step_of, time_of}
use Rattle.gu_session.specs.Table.{on_tick}
use Rattle.gu_session.specs.Runs.{new_of, numbers_from, awaited_behind, unless_closed, or_called, waits_for}
use Rattle.gu_session.proofs.Lines.{count, IsEarly, Goes, goes_on_message, goes_on_tick}
use Rattle.gu_session.proofs.Sent.{acts_new, tells_new}
use Rattle.gu_base.proofs.Basics.{either_way}

-- the numbers of new messages
abbrev pub numbers : List Going → List ℕ
numbers ms = map (λ m. m.number) ms

-- of what is said, and of a Reply
said_numbers : (came : Option Message) (number : ℕ) (v : Verdict)
    → numbers (sayings came number v.say) ≡ numbers_from number (count v.say)
said_numbers came number v = by_say v.say
  where
    by_say : (s : Option Say) → numbers (sayings came number s) ≡ numbers_from number (count s)
    by_say None = refl
    by_say (Some s) = refl

reply_numbers : (time : List ℕ) (number : ℕ) (xs : List (AppType × List ℕ))
    → numbers (map new (kept_from time number xs)) ≡ numbers_from number (length (kept_from time number xs))
reply_numbers time number [] = refl
reply_numbers time number (x ∷ xs) = ap (λ (t : List ℕ). number ∷ t) (reply_numbers time (number + 1) xs)

-- what a step keeps: the new messages have the next numbers; the expected number doesn't fall, and a call is below it
-- then; the call that waits is the one handed out last; with nobody to send to nothing is sent; and a step that closes
-- leaves a closed session
pub record Moves (s : Seen) (e : Event) (o : Outcome) : Type 0 where
  pub early : IsEarly o.after.link.firm o.after.link.expected o.after.link.waiting
  pub many : ℕ
  pub new : numbers (new_of o.send) ≡ numbers_from s.link.next many
  pub next : o.after.link.next ≡ s.link.next + many
  pub expected : s.link.expected ≤ o.after.link.expected
  pub call : IfSome o.call (λ c. (s.link.expected ≤ c.number) × (c.number < o.after.link.expected))
  pub waits : s.link.closed ≡ false → waits_for o.after ≡ awaited_behind e o (waits_for s)
  pub mute : o.after.link.firm ≡ None → o.send ≡ []
  pub closes : o.close ≡ true → o.after.link.closed ≡ true

-- a step that closes
moves_shut : (now : Timestamp) (s : Seen) (e : Event) → IsEarly s.link.firm s.link.expected s.link.waiting
    → Moves s e (shut_down now s)
moves_shut now s e early =
    record {
      early = still s.link.firm s.link.expected s.link.waiting early;
      many = 0;
      new = refl;
      next = omega arith;
      expected = omega arith;
      call = tt;
      waits = λ h. refl;
      mute = λ _. refl;
      closes = λ _. refl;
    }
  where
    still : (firm : Option (List ℕ)) (expected : ℕ) (waiting : Option Waiting) → IsEarly firm expected waiting
        → IsEarly firm expected None
    still None expected waiting e = (e.0, refl)
    still (Some firm) expected waiting e = tt

-- a call's number is the message's
call_kept : (meaning : Result Inbound Reject) (number : Option ℕ) (low high : ℕ)
    → IfSome number (λ n. (low ≤ n) × (n < high))
    → IfSome (call_of meaning number) (λ c. (low ≤ c.number) × (c.number < high))
call_kept (Err fault) number low high h = tt
call_kept (Ok inbound.Heartbeat) number low high h = tt
call_kept (Ok inbound.Reject) number low high h = tt
call_kept (Ok (inbound.TestRequest id)) number low high h = tt
call_kept (Ok inbound.Logout) number low high h = tt
call_kept (Ok (inbound.Logon heartbeat reset)) number low high h = tt
call_kept (Ok (inbound.SequenceReset gap_fill next)) number low high h = tt
call_kept (Ok (inbound.ResendRequest from to)) number low high h = tt
call_kept (Ok (inbound.Call firm trade id command)) None low high h = tt
call_kept (Ok (inbound.Call firm trade id command)) (Some n) low high h = h

-- nothing again and nothing said is nothing
muted : (now : Timestamp) (s : Seen) (came : Option Message) (v : Verdict) → (v.resend ≡ None) × (v.say ≡ None)
    → resends (time_of now) s.kept v.resend ++ sayings came s.link.next v.say ≡ []
muted now s came v h = rw (h.0, h.1) refl

-- what a verdict does
moves_acts : (now : Timestamp) (s : Seen) (e : Event) (came : Option Message) (meaning : Result Inbound Reject)
    (v : Verdict)
    → ((o : Outcome) → (id : Option (List ℕ))
    → awaited_behind e o id ≡ unless_closed o.after.link.closed (or_called o.call id))
    → Goes s.link meaning v → Moves s e (acts now s came (call_of meaning v.call) v)
moves_acts now s e came meaning v no_reply g =
    let o = acts now s came (call_of meaning v.call) v in
    record {
      early = g.early;
      many = count v.say;
      new = ap numbers (acts_new (time_of now) s.kept v.resend came s.link.next v.say)
          ∙ said_numbers came s.link.next v;
      next = g.next;
      expected = g.expected;
      call = call_kept meaning v.call s.link.expected v.link.expected g.call;
      waits = λ h. g.waits h ∙ sym (no_reply o (waits_for s));
      mute = λ h. muted now s came v (g.mute h);
      closes = λ h. h;
    }

-- nothing is done
moves_idle : (now : Timestamp) (s : Seen) (e : Event) → IsEarly s.link.firm s.link.expected s.link.waiting
    → (s.link.closed ≡ false → waits_for s ≡ awaited_behind e (idle now s) (waits_for s)) → Moves s e (idle now s)
moves_idle now s e early waits =
    record {
      early = early;
      many = 0;
      new = refl;
      next = omega arith;
      expected = omega arith;
      call = tt;
      waits = waits;
      mute = λ _. refl;
      closes = λ h. absurd (cc);
    }

-- a Reply, where there is a firm or not
moves_tells : (now : Timestamp) (s : Seen) (answer : Option Answer) (reports : List Report) (firm : List ℕ)
    → s.link.firm ≡ Some firm
    → Moves s (Reply answer reports)
    (tells now s (kept_from (time_of now) s.link.next (reply_bodies (time_of now) s.link.waiting answer reports)))
moves_tells now s answer reports firm is =
    let ms = kept_from (time_of now) s.link.next (reply_bodies (time_of now) s.link.waiting answer reports) in
    record {
      early = rw is tt;
      many = length ms;
      new = ap numbers (tells_new ms)
          ∙ reply_numbers (time_of now) s.link.next (reply_bodies (time_of now) s.link.waiting answer reports);
      next = refl;
      expected = omega arith;
      call = tt;
      waits = λ h. rw h refl;
      mute = λ h. absurd (never firm (sym is ∙ h));
      closes = λ h. absurd (cc);
    }
  where
    never : {A : Type 0} (x : A) → Some x ≡ None → ⊥
    never x e = cc

moves_replies : (now : Timestamp) (s : Seen) (answer : Option Answer) (reports : List Report) (firm : Option (List ℕ))
    → s.link.firm ≡ firm → IsEarly firm s.link.expected s.link.waiting
    → Moves s (Reply answer reports) (replies now s firm answer reports)
moves_replies now s answer reports None is early =
    moves_idle now s (Reply answer reports) (rw is early)
    (λ h. ap (λ (w : Option Waiting). option_map (λ (x : Waiting). x.id) w) early.1 ∙ rw h refl)
moves_replies now s answer reports (Some firm) is early = moves_tells now s answer reports firm is

-- each event of an open session
moves_on_event : (now : Timestamp) (s : Seen) (e : Event) → IsEarly s.link.firm s.link.expected s.link.waiting
    → Moves s e (on_event now s e)
moves_on_event now s (Came fs) early =
    moves_acts now s (Came fs) (Some fs) (meaning_of s.house.house fs) (message_verdict now s fs) (λ o id. refl)
    (goes_on_message now s.house s.link (heading_of s.house.house fs) (meaning_of s.house.house fs) _ early)
moves_on_event now s Tick early =
    let none : Result Inbound Reject = Ok inbound.Heartbeat in
    moves_acts now s Tick None none (on_tick now s.link s.link.firm) (λ o id. refl)
    (goes_on_tick now s.link s.link.firm none refl early)
moves_on_event now s (Reply answer reports) early = moves_replies now s answer reports s.link.firm refl early
moves_on_event now s End early = moves_shut now s End early

-- of an open session
moves_open : (now : Timestamp) (s : Seen) (e : Event) → IsEarly s.link.firm s.link.expected s.link.waiting
    → Moves s e (where_it_fits now s (on_event now s e))
moves_open now s e early =
    either_way (Moves s e) (fits (on_event now s e).after.link) _ _ (λ _. moves_on_event now s e early)
    (λ _. moves_shut now s e early)

pub moves_step : (now : Timestamp) (s : Seen) (e : Event) → IsEarly s.link.firm s.link.expected s.link.waiting
    → Moves s e (step_of now s e)
moves_step now s e early =
    either_way (Moves s e) s.link.closed _ _ (λ is. moves_idle now s e early (λ h. absurd (both s.link.closed is h)))
    (λ _. moves_open now s e early)
  where
    both : (b : Bool) → b ≡ true → b ≡ false → ⊥
    both b x y = cc
