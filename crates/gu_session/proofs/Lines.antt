-- What each line of the table keeps.
use Rattle.std.proofs.Common.{◌≡◌, ℕ, ◌+◌, ◌*◌, ◌<◌, ◌≤◌, Bool, false, not, ◌&&◌, ◌==◌, nat_le, nat_lt, List, refl, sym}
use Rattle.std.proofs.Common.{◌∙◌, arith}
use Rattle.std.specs.Prelude.{Option, Some, None, option_map, Result, Ok, Err, IfSome, bytes_eq}
use Rattle.std.proofs.lemmas.Bool.Decides.{nat_tests}
use Rattle.std.proofs.lemmas.Bool.{ltb-true, leb-true}
use Rattle.jiff.specs.Types.{Timestamp}
use Rattle.gu_base.specs.House.{House, knows_firm}
use Rattle.gu_message.specs.declared.heading.Heading.{Heading}
use Rattle.gu_message.specs.declared.session_bodies.LogoutText.{LogoutText}
use Rattle.gu_message.specs.declared.fault.Reject.{Reject}
use Rattle.gu_message.specs.declared.inbound.Inbound.{Inbound}
use Rattle.gu_message.specs.declared.inbound.Inbound.TheVariants as inbound
use Rattle.gu_session.specs.declared.link.LinkState.{LinkState}
use Rattle.gu_session.specs.declared.link.Waiting.{Waiting}
use Rattle.gu_session.specs.declared.line.TableLine.{TableLine}
use Rattle.gu_session.specs.declared.verdict.Span.{Span}
use Rattle.gu_session.specs.declared.verdict.Say.{Say}
use Rattle.gu_session.specs.declared.verdict.Verdict.{Verdict}
use Rattle.gu_session.specs.Table.{silent, says, closes, shut, again, last_asked, span_of, resend_of, first_logon}
use Rattle.gu_session.specs.Table.{before_logon, resets, asks, fills, by_type, on_line, reset_to, line_by_number}
use Rattle.gu_session.specs.Table.{line_of, heard, by_firm, settled, on_message, waited, by_silence, on_tick}
use Rattle.gu_session.specs.Steps.{call_of}
use Rattle.gu_session.specs.Runs.{unless_closed, or_called}
use Rattle.gu_base.proofs.Basics.{either_way}

-- one more number is used where something is said
abbrev pub count : Option Say → ℕ
count None = 0
count (Some s) = 1

-- the id of the call that waits
abbrev pub waiting_id : LinkState → Option (List ℕ)
waiting_id l = option_map (λ w. w.id) l.waiting

-- none is handed out
no_call : (meaning : Result Inbound Reject) → call_of meaning None ≡ None
no_call (Err fault) = refl
no_call (Ok inbound.Heartbeat) = refl
no_call (Ok inbound.Reject) = refl
no_call (Ok (inbound.TestRequest id)) = refl
no_call (Ok inbound.Logout) = refl
no_call (Ok (inbound.Logon heartbeat reset)) = refl
no_call (Ok (inbound.SequenceReset gap_fill next)) = refl
no_call (Ok (inbound.ResendRequest from to)) = refl
no_call (Ok (inbound.Call firm trade id command)) = refl

-- against what the session knew before: the firm stays, the numbers go up by what is said, the expected number doesn't
-- fall; a call is the expected one's, which is behind then; the call that waits stays, but for a new one and for the
-- close; what is sent again is a span
pub record Keeps (l : LinkState) (meaning : Result Inbound Reject) (v : Verdict) : Type 0 where
  pub firm : v.link.firm ≡ l.firm
  pub next : v.link.next ≡ l.next + count v.say
  pub expected : l.expected ≤ v.link.expected
  pub call : IfSome v.call (λ n. (l.expected ≤ n) × (n < v.link.expected))
  pub waits : l.closed ≡ false
      → waiting_id v.link ≡ unless_closed v.link.closed (or_called (call_of meaning v.call) (waiting_id l))
  pub span : IfSome v.resend (λ s. s.from ≤ s.next)

-- nothing is said
keeps_silent : (l : LinkState) (expected : ℕ) (meaning : Result Inbound Reject) → l.expected ≤ expected
    → Keeps l meaning (silent (record l { expected = expected }))
keeps_silent l expected meaning w =
    record {
      firm = refl;
      next = omega arith;
      expected = w;
      call = tt;
      waits = λ h. rw (no_call meaning, h) refl;
      span = tt;
    }

-- something is said, and the session goes on
keeps_says : (now : Timestamp) (l : LinkState) (expected : ℕ) (s : Say) (meaning : Result Inbound Reject)
    → l.expected ≤ expected → Keeps l meaning (says now (record l { expected = expected }) s)
keeps_says now l expected s meaning w =
    record { firm = refl; next = refl; expected = w; call = tt; waits = λ h. rw (no_call meaning, h) refl; span = tt }

-- a Logout
keeps_closes : (now : Timestamp) (l : LinkState) (expected : ℕ) (t : Option LogoutText)
    (meaning : Result Inbound Reject) → l.expected ≤ expected
    → Keeps l meaning (closes now (record l { expected = expected }) t)
keeps_closes now l expected t meaning w =
    record { firm = refl; next = refl; expected = w; call = tt; waits = λ h. refl; span = tt }

-- what is sent again before it
keeps_again : (now : Timestamp) (l : LinkState) (meaning : Result Inbound Reject) (span : Option Span) (v : Verdict)
    → IfSome span (λ s. s.from ≤ s.next) → Keeps l meaning v → Keeps l meaning (again now span v)
keeps_again now l meaning None v h k = k
keeps_again now l meaning (Some span) v h k =
    record { firm = k.firm; next = k.next; expected = k.expected; call = k.call; waits = k.waits; span = h }

-- what a ResendRequest asks for is a span
span_rises : (next from to : ℕ) → IfSome (span_of next from to) (λ s. s.from ≤ s.next)
span_rises next from to =
    either_way (λ (o : Option Span). IfSome o (λ s. s.from ≤ s.next)) (nat_le from (last_asked next to)) _ _
    (λ e. let le : from ≤ last_asked next to = leb-true _ _ e in omega arith) (λ _. tt)

resend_rises : (next : ℕ) (meaning : Result Inbound Reject) → IfSome (resend_of next meaning) (λ s. s.from ≤ s.next)
resend_rises next (Err fault) = tt
resend_rises next (Ok inbound.Heartbeat) = tt
resend_rises next (Ok inbound.Reject) = tt
resend_rises next (Ok (inbound.TestRequest id)) = tt
resend_rises next (Ok inbound.Logout) = tt
resend_rises next (Ok (inbound.Logon heartbeat reset)) = tt
resend_rises next (Ok (inbound.SequenceReset gap_fill to)) = tt
resend_rises next (Ok (inbound.ResendRequest from to)) = span_rises next from to
resend_rises next (Ok (inbound.Call firm trade id command)) = tt

-- ---- the lines, each with what it keeps

keeps_fills : (now : Timestamp) (l : LinkState) (number next : ℕ) (meaning : Result Inbound Reject)
    → number ≡ l.expected → Keeps l meaning (fills now (record l { expected = l.expected + 1 }) number next)
keeps_fills now l number next meaning n =
    either_way (Keeps l meaning) (nat_lt number next) _ _
    (λ e. let lt : number < next = ltb-true _ _ e in keeps_silent l next meaning (omega arith))
    (λ e. keeps_says now l (l.expected + 1) _ meaning (omega arith))

keeps_by_type : (now : Timestamp) (l : LinkState) (number : ℕ) (meaning : Result Inbound Reject) → number ≡ l.expected
    → Keeps l meaning (by_type now (record l { expected = l.expected + 1 }) number meaning)
keeps_by_type now l number (Err fault) n = keeps_says now l (l.expected + 1) _ _ (omega arith)
keeps_by_type now l number (Ok inbound.Heartbeat) n = keeps_silent l (l.expected + 1) _ (omega arith)
keeps_by_type now l number (Ok inbound.Reject) n = keeps_silent l (l.expected + 1) _ (omega arith)
keeps_by_type now l number (Ok (inbound.TestRequest id)) n = keeps_says now l (l.expected + 1) _ _ (omega arith)
keeps_by_type now l number (Ok inbound.Logout) n = keeps_closes now l (l.expected + 1) _ _ (omega arith)
keeps_by_type now l number (Ok (inbound.Logon heartbeat reset)) n =
    keeps_closes now l (l.expected + 1) _ _ (omega arith)
keeps_by_type now l number (Ok (inbound.SequenceReset gap_fill next)) n = keeps_fills now l number next _ n
keeps_by_type now l number (Ok (inbound.ResendRequest from to)) n =
    keeps_again now l (Ok (inbound.ResendRequest from to)) (span_of l.next from to)
    (silent (record l { expected = l.expected + 1 })) (span_rises l.next from to)
    (keeps_silent l (l.expected + 1) _ (omega arith))
keeps_by_type now l number (Ok (inbound.Call firm trade id command)) n =
    record {
      firm = refl;
      next = omega arith;
      expected = omega arith;
      call = (omega arith, omega arith);
      waits = λ h. rw h refl;
      span = tt;
    }

keeps_asks : (now : Timestamp) (l : LinkState) (number : ℕ) (asked : Option ℕ) (meaning : Result Inbound Reject)
    → Keeps l meaning (asks now l number asked)
keeps_asks now l number None meaning = record {
  firm = refl;
  next = refl;
  expected = omega arith;
  call = tt;
  waits = λ h. rw (no_call meaning, h) refl;
  span = tt;
}
keeps_asks now l number (Some highest) meaning = record {
  firm = refl;
  next = omega arith;
  expected = omega arith;
  call = tt;
  waits = λ h. rw (no_call meaning, h) refl;
  span = tt;
}

keeps_resets : (now : Timestamp) (l : LinkState) (next : ℕ) (meaning : Result Inbound Reject)
    → Keeps l meaning (resets now l next)
keeps_resets now l next meaning =
    either_way (Keeps l meaning) (nat_le l.expected next) _ _ (λ e. keeps_silent l next meaning (leb-true _ _ e))
    (λ _. keeps_says now l l.expected _ meaning (omega arith))

keeps_line : (now : Timestamp) (l : LinkState) (meaning : Result Inbound Reject) (h : Heading) (reset : Option ℕ)
    (is_logout : Bool) → Keeps l meaning (on_line now l meaning (line_by_number l h reset is_logout))
keeps_line now l meaning h (Some next) is_logout = keeps_resets now l next meaning
keeps_line now l meaning h None is_logout =
    either_way (λ (line : TableLine). Keeps l meaning (on_line now l meaning line))
    (nat_lt h.number l.expected && h.poss_dup) _ _ (λ _. keeps_silent l l.expected meaning (omega arith)) (λ _.
    either_way (λ (line : TableLine). Keeps l meaning (on_line now l meaning line)) (nat_lt h.number l.expected) _ _
    (λ _. keeps_closes now l l.expected _ meaning (omega arith)) (λ low.
    either_way (λ (line : TableLine). Keeps l meaning (on_line now l meaning line))
    (nat_lt l.expected h.number && is_logout) _ _ (λ _. keeps_closes now l l.expected _ meaning (omega arith)) (λ _.
    either_way (λ (line : TableLine). Keeps l meaning (on_line now l meaning line)) (nat_lt l.expected h.number) _ _
    (λ _.
    keeps_again now l meaning (resend_of l.next meaning) (asks now l h.number l.asked) (resend_rises l.next meaning)
    (keeps_asks now l h.number l.asked meaning))
    (λ high. keeps_by_type now l h.number meaning (grind (arith, nat_tests))))))

keeps_after_logon : (now : Timestamp) (l : LinkState) (firm : List ℕ) (heading : Result Heading Reject)
    (meaning : Result Inbound Reject) (is_logout : Bool)
    → Keeps l meaning (on_line now l meaning (line_of l firm heading meaning is_logout))
keeps_after_logon now l firm (Err fault) meaning is_logout = keeps_closes now l l.expected _ meaning (omega arith)
keeps_after_logon now l firm (Ok h) meaning is_logout =
    either_way (λ (line : TableLine). Keeps l meaning (on_line now l meaning line)) (bytes_eq h.firm firm) _ _
    (λ _. keeps_line now l meaning h (reset_to meaning) is_logout)
    (λ _. keeps_closes now l l.expected _ meaning (omega arith))

-- before the Logon the number 1 is expected, or none has come, and no call waits
abbrev pub IsEarly : Option (List ℕ) → ℕ → Option Waiting → Type 0
IsEarly None expected waiting = (expected ≤ 2) × (waiting ≡ None)
IsEarly (Some firm) expected waiting = Unit {0}

some_is_not_none : {A : Type 0} (x : A) → Some x ≡ None → ⊥
some_is_not_none x e = cc

-- what a verdict keeps, before the Logon and after; with nobody to send to it sends nothing
pub record Goes (l : LinkState) (meaning : Result Inbound Reject) (v : Verdict) : Type 0 where
  pub early : IsEarly v.link.firm v.link.expected v.link.waiting
  pub next : v.link.next ≡ l.next + count v.say
  pub expected : l.expected ≤ v.link.expected
  pub call : IfSome v.call (λ n. (l.expected ≤ n) × (n < v.link.expected))
  pub waits : l.closed ≡ false
      → waiting_id v.link ≡ unless_closed v.link.closed (or_called (call_of meaning v.call) (waiting_id l))
  pub span : IfSome v.resend (λ s. s.from ≤ s.next)
  pub mute : v.link.firm ≡ None → (v.resend ≡ None) × (v.say ≡ None)

-- from what holds after the Logon
goes_on : (l : LinkState) (meaning : Result Inbound Reject) (v : Verdict) (firm : List ℕ)
    → v.link.firm ≡ Some firm → v.link.next ≡ l.next + count v.say → l.expected ≤ v.link.expected
    → IfSome v.call (λ n. (l.expected ≤ n) × (n < v.link.expected))
    → (l.closed ≡ false
    → waiting_id v.link ≡ unless_closed v.link.closed (or_called (call_of meaning v.call) (waiting_id l)))
    → IfSome v.resend (λ s. s.from ≤ s.next) → Goes l meaning v
goes_on l meaning v firm is next expected call waits span =
    record {
      early = rw is tt;
      next = next;
      expected = expected;
      call = call;
      waits = waits;
      span = span;
      mute = λ e. absurd (some_is_not_none firm (sym is ∙ e));
    }

still_early : (firm : Option (List ℕ)) (expected : ℕ) (waiting : Option Waiting) → IsEarly firm expected waiting
    → IsEarly firm expected None
still_early None expected waiting e = (e.0, refl)
still_early (Some firm) expected waiting e = tt

-- the session is closed
goes_shut : (l : LinkState) (meaning : Result Inbound Reject) → IsEarly l.firm l.expected l.waiting
    → Goes l meaning (shut l)
goes_shut l meaning e =
    record {
      early = still_early l.firm l.expected l.waiting e;
      next = omega arith;
      expected = omega arith;
      call = tt;
      waits = λ h. refl;
      span = tt;
      mute = λ _. (refl, refl);
    }

-- nothing is done
goes_silent : (l : LinkState) (meaning : Result Inbound Reject) → IsEarly l.firm l.expected l.waiting
    → Goes l meaning (silent l)
goes_silent l meaning e =
    record {
      early = e;
      next = omega arith;
      expected = omega arith;
      call = tt;
      waits = λ h. rw (no_call meaning, h) refl;
      span = tt;
      mute = λ _. (refl, refl);
    }

-- before the Logon
goes_first : (now : Timestamp) (t : House) (l : LinkState) (h : Heading) (heartbeat : ℕ) (reset : Bool)
    (meaning : Result Inbound Reject) → IsEarly l.firm l.expected l.waiting → l.expected ≤ 2
    → Goes l meaning (first_logon now t l h heartbeat reset)
goes_first now t l h heartbeat reset meaning e two =
    either_way (Goes l meaning) ((h.number == 1) && knows_firm t h.firm) _ _
    (λ _. goes_on l meaning _ h.firm refl refl two tt (λ h. rw (no_call meaning, h) refl) tt)
    (λ _. goes_shut l meaning e)

goes_before : (now : Timestamp) (t : House) (l : LinkState) (heading : Result Heading Reject)
    (meaning : Result Inbound Reject) → IsEarly l.firm l.expected l.waiting → l.expected ≤ 2
    → Goes l meaning (before_logon now t l heading meaning)
goes_before now t l (Err fault) meaning e two = goes_shut l meaning e
goes_before now t l (Ok h) (Err fault) e two = goes_shut l _ e
goes_before now t l (Ok h) (Ok inbound.Heartbeat) e two = goes_shut l _ e
goes_before now t l (Ok h) (Ok inbound.Reject) e two = goes_shut l _ e
goes_before now t l (Ok h) (Ok (inbound.TestRequest id)) e two = goes_shut l _ e
goes_before now t l (Ok h) (Ok inbound.Logout) e two = goes_shut l _ e
goes_before now t l (Ok h) (Ok (inbound.Logon heartbeat reset)) e two = goes_first now t l h heartbeat reset _ e two
goes_before now t l (Ok h) (Ok (inbound.SequenceReset gap_fill next)) e two = goes_shut l _ e
goes_before now t l (Ok h) (Ok (inbound.ResendRequest from to)) e two = goes_shut l _ e
goes_before now t l (Ok h) (Ok (inbound.Call firm trade id command)) e two = goes_shut l _ e

-- before it and after it
goes_by_firm : (now : Timestamp) (t : House) (l : LinkState) (firm : Option (List ℕ)) (heading : Result Heading Reject)
    (meaning : Result Inbound Reject) (is_logout : Bool) → l.firm ≡ firm → IsEarly firm l.expected l.waiting
    → Goes l meaning (by_firm now t l firm heading meaning is_logout)
goes_by_firm now t l None heading meaning is_logout is e = goes_before now t l heading meaning (rw is e) e.0
goes_by_firm now t l (Some firm) heading meaning is_logout is e =
    let k = keeps_after_logon now (heard now l) firm heading meaning is_logout in
    goes_on l meaning _ firm (k.firm ∙ is) k.next k.expected k.call k.waits k.span

-- with the gap settled
goes_settled : (l : LinkState) (meaning : Result Inbound Reject) (v : Verdict) → Goes l meaning v
    → Goes l meaning (settled v)
goes_settled l meaning v g =
    record {
      early = g.early;
      next = g.next;
      expected = g.expected;
      call = g.call;
      waits = g.waits;
      span = g.span;
      mute = g.mute;
    }

pub goes_on_message : (now : Timestamp) (t : House) (l : LinkState) (heading : Result Heading Reject)
    (meaning : Result Inbound Reject) (is_logout : Bool) → IsEarly l.firm l.expected l.waiting
    → Goes l meaning (on_message now t l heading meaning is_logout)
goes_on_message now t l heading meaning is_logout e =
    goes_settled l meaning _ (goes_by_firm now t l l.firm heading meaning is_logout refl e)

-- a Tick
goes_by_silence : (now : Timestamp) (l : LinkState) (meaning : Result Inbound Reject) (firm : List ℕ)
    → l.firm ≡ Some firm
    → Goes l meaning (by_silence now l)
goes_by_silence now l meaning firm is =
    let quiet =
    goes_on l meaning (silent l) firm is (omega arith) (omega arith) tt (λ h. rw (no_call meaning, h) refl) tt in
    either_way (Goes l meaning) (l.heartbeat == 0) _ _ (λ _. quiet) (λ _.
    either_way (Goes l meaning) (nat_le (3 * l.heartbeat) (waited l.came now)) _ _
    (λ _. goes_on l meaning _ firm is refl (omega arith) tt (λ h. refl) tt) (λ _.
    either_way (Goes l meaning) (nat_le (2 * l.heartbeat) (waited l.came now) && not l.tested) _ _
    (λ _. goes_on l meaning _ firm is refl (omega arith) tt (λ h. rw (no_call meaning, h) refl) tt) (λ _.
    either_way (Goes l meaning) (nat_le l.heartbeat (waited l.went now)) _ _
    (λ _. goes_on l meaning _ firm is refl (omega arith) tt (λ h. rw (no_call meaning, h) refl) tt) (λ _. quiet))))

pub goes_on_tick : (now : Timestamp) (l : LinkState) (firm : Option (List ℕ)) (meaning : Result Inbound Reject)
    → l.firm ≡ firm → IsEarly l.firm l.expected l.waiting → Goes l meaning (on_tick now l firm)
goes_on_tick now l None meaning is e = goes_silent l meaning e
goes_on_tick now l (Some firm) meaning is e = goes_by_silence now l meaning firm is

-- ---- the firm stays

firm_by_firm : (now : Timestamp) (t : House) (l : LinkState) (known : Option (List ℕ)) (firm : List ℕ)
    (heading : Result Heading Reject) (meaning : Result Inbound Reject) (is_logout : Bool) → known ≡ Some firm
    → (by_firm now t l known heading meaning is_logout).link.firm ≡ l.firm
firm_by_firm now t l None firm heading meaning is_logout e = absurd (some_is_not_none firm (sym e))
firm_by_firm now t l (Some known) firm heading meaning is_logout e =
    (keeps_after_logon now (heard now l) known heading meaning is_logout).firm

pub firm_on_message : (now : Timestamp) (t : House) (l : LinkState) (firm : List ℕ) (heading : Result Heading Reject)
    (meaning : Result Inbound Reject) (is_logout : Bool) → l.firm ≡ Some firm
    → (on_message now t l heading meaning is_logout).link.firm ≡ l.firm
firm_on_message now t l firm heading meaning is_logout e = firm_by_firm now t l l.firm firm heading meaning is_logout e

firm_by_silence : (now : Timestamp) (l : LinkState) → (by_silence now l).link.firm ≡ l.firm
firm_by_silence now l =
    either_way (λ (v : Verdict). v.link.firm ≡ l.firm) (l.heartbeat == 0) _ _ (λ _. refl) (λ _.
    either_way (λ (v : Verdict). v.link.firm ≡ l.firm) (nat_le (3 * l.heartbeat) (waited l.came now)) _ _ (λ _. refl)
    (λ _.
    either_way (λ (v : Verdict). v.link.firm ≡ l.firm) (nat_le (2 * l.heartbeat) (waited l.came now) && not l.tested) _
    _ (λ _. refl) (λ _.
    either_way (λ (v : Verdict). v.link.firm ≡ l.firm) (nat_le l.heartbeat (waited l.went now)) _ _ (λ _. refl)
    (λ _. refl))))

pub firm_on_tick : (now : Timestamp) (l : LinkState) (known : Option (List ℕ))
    → (on_tick now l known).link.firm ≡ l.firm
firm_on_tick now l None = refl
firm_on_tick now l (Some firm) = firm_by_silence now l
