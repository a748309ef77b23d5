-- A step of a session: what it leaves, and what goes out.
use Rattle.std.specs.Prelude.{ℕ, ◌+◌, ◌-◌, nat_lt, nat_le, ◌&&◌, Bool, true, false, if◌then◌else◌}
use Rattle.std.specs.Prelude.{codes, List, [], ◌∷◌, ◌++◌, length, drop, map, filter, Option, Some}
use Rattle.std.specs.Prelude.{None, Result, Ok, unsigned_abs}
use Rattle.jiff.specs.Types.{Timestamp}
use Rattle.gu_base.specs.House.{House}
use Rattle.gu_base.specs.declared.command.Command.{Command}
use Rattle.gu_base.specs.declared.entry.Answer.{Answer}
use Rattle.gu_base.specs.declared.report.Report.{Report}
use Rattle.gu_codec.specs.Messages.{Message}
use Rattle.gu_codec.specs.Writing.{fields_text}
use Rattle.gu_message.specs.declared.fault.Reject.{Reject}
use Rattle.gu_message.specs.declared.inbound.Inbound.{Inbound}
use Rattle.gu_message.specs.declared.inbound.Inbound.TheVariants.{Call}
use Rattle.gu_message.specs.Finding.{value_of, equals_text}
use Rattle.gu_message.specs.Heading.{heading_of}
use Rattle.gu_message.specs.Meaning.{meaning_of}
use Rattle.gu_message.specs.SessionBodies.{sequence_reset_fields}
use Rattle.gu_message.specs.AllocationReport.{date_in, report_fields}
use Rattle.gu_message.specs.SendingTime.{sending_time}
use Rattle.gu_message.specs.AllocationAck.{ack_fields}
use Rattle.gu_message.specs.TradeReportAck.{trade_ack_fields}
use Rattle.gu_session.specs.declared.link.LinkState.{LinkState}
use Rattle.gu_session.specs.declared.link.Waiting.{Waiting}
use Rattle.gu_session.specs.declared.kept.AppType.{AppType}
use Rattle.gu_session.specs.declared.kept.AppType.TheVariants as app
use Rattle.gu_session.specs.Keeping.{Kept}
use Rattle.gu_session.specs.declared.verdict.Span.{Span}
use Rattle.gu_session.specs.declared.verdict.Say.{Say}
use Rattle.gu_session.specs.declared.verdict.Verdict.{Verdict}
use Rattle.gu_session.specs.Limits.{last_number, past_last, most_kept}
use Rattle.gu_session.specs.Going.{Going, said, type_of_app}
use Rattle.gu_session.specs.Table.{on_message, on_tick, shut}

-- what comes
pub data Event : Type 0 where
  Came : (fields : Message) → Event
  Tick : Event
  Reply : (answer : Option Answer) → (reports : List Report) → Event
  End : Event

-- the house table, what the session knows of the connection, and the last application messages sent
pub record Seen : Type 0 where
  pub house : House
  pub link : LinkState
  pub kept : List Kept

-- a call for the book, with the number of its message
pub record Called : Type 0 where
  pub number : ℕ
  pub id : List ℕ
  pub command : Command

-- what a step leaves, and what it gives out: at this time (SendingTime 52) what is sent, these
-- numbers of it again
pub record Outcome : Type 0 where
  pub after : Seen
  pub time : List ℕ
  pub again : Option Span
  pub send : List Going
  pub call : Option Called
  pub close : Bool

-- SendingTime (52) of a moment
abbrev pub time_of : Timestamp → List ℕ
time_of now = sending_time (unsigned_abs now.nanosecond)

-- ---- what is sent again

-- a kept message, with its own number
abbrev pub resent : Kept → Going
resent m = record {
  kind = type_of_app m.kind;
  number = m.number;
  next = m.number + 1;
  first = Some m.sent;
  body = m.body;
}

-- the numbers from one up to another as one SequenceReset, which tells this as its first time
abbrev pub filling : List ℕ → ℕ → ℕ → Going
filling time from next = record {
  kind = codes "4";
  number = from;
  next = next;
  first = Some time;
  body = fields_text (sequence_reset_fields next);
}

-- if there are any
abbrev pub gap_fill : List ℕ → ℕ → ℕ → List Going
gap_fill time from next = if nat_lt from next then filling time from next ∷ [] else []

-- each of the messages, and each run of other numbers as one SequenceReset, from one number up to
-- another
abbrev pub with_gaps : List ℕ → ℕ → ℕ → List Kept → List Going
with_gaps time from next [] = gap_fill time from next
with_gaps time from next (m ∷ ms) =
    gap_fill time from m.number ++ resent m ∷ with_gaps time (m.number + 1) next ms

-- the kept messages with numbers from one up to another
abbrev pub within : ℕ → ℕ → List Kept → List Kept
within from next kept = filter (λ m. nat_le from m.number && nat_lt m.number next) kept

-- what is sent again for a span, if there is one
abbrev pub resends : List ℕ → List Kept → Option Span → List Going
resends time kept None = []
resends time kept (Some span) = with_gaps time span.from span.next (within span.from span.next kept)

-- ---- what is new

-- what is said, as a new message with this number
abbrev pub sayings : Option Message → ℕ → Option Say → List Going
sayings came number None = []
sayings came number (Some s) = said came number s ∷ []

-- the answer to a call: its type and fields
abbrev pub answer_body : Waiting → Answer → AppType × List ℕ
answer_body w a =
    if w.trade then (app.TradeAck, fields_text (trade_ack_fields w.id a))
    else (app.Ack, fields_text (ack_fields w.id a))

-- a report at a time: its type and fields
abbrev pub report_body : List ℕ → Report → AppType × List ℕ
report_body time r = (app.Report, fields_text (report_fields (date_in time) r))

-- the answer to the call that waits, if there are both
abbrev pub answer_of : Option Waiting → Option Answer → List (AppType × List ℕ)
answer_of (Some w) (Some a) = answer_body w a ∷ []
answer_of _ _ = []

-- the answer, then the reports
abbrev pub reply_bodies : List ℕ → Option Waiting → Option Answer → List Report
    → List (AppType × List ℕ)
reply_bodies time w a rs = answer_of w a ++ map (report_body time) rs

-- one as a message that is kept
abbrev pub kept_as : List ℕ → ℕ → AppType × List ℕ → Kept
kept_as time number x = record { kind = x.0; number = number; sent = time; body = x.1 }

-- each, numbered from this one on
abbrev pub kept_from : List ℕ → ℕ → List (AppType × List ℕ) → List Kept
kept_from time number [] = []
kept_from time number (x ∷ xs) = kept_as time number x ∷ kept_from time (number + 1) xs

-- a new message
abbrev pub new : Kept → Going
new m = record {
  kind = type_of_app m.kind;
  number = m.number;
  next = m.number + 1;
  first = None;
  body = m.body;
}

-- the last of these, as many as are kept
abbrev pub last_kept : List Kept → List Kept
last_kept ms = drop (length ms - most_kept) ms

-- a message was sent, if there is one
abbrev pub went_at : Timestamp → List Kept → Timestamp → Timestamp
went_at now [] before = before
went_at now (m ∷ ms) before = now

-- ---- steps

-- each number is at most the last one: the next one to be sent may be past that, the expected one
-- may not
abbrev pub fits : LinkState → Bool
fits l = nat_le l.next past_last && nat_le l.expected last_number

-- the session is closed, and nothing is sent
abbrev pub shut_down : Timestamp → Seen → Outcome
shut_down now s = record {
  after = record s { link = (shut s.link).link };
  time = time_of now;
  again = None;
  send = [];
  call = None;
  close = true;
}

-- nothing is done
abbrev pub idle : Timestamp → Seen → Outcome
idle now s =
    record { after = s; time = time_of now; again = None; send = []; call = None; close = false }

-- a step, where its numbers fit
abbrev pub where_it_fits : Timestamp → Seen → Outcome → Outcome
where_it_fits now s o = if fits o.after.link then o else shut_down now s

-- the call that a message makes, where it is handed out
abbrev pub call_of : Result Inbound Reject → Option ℕ → Option Called
call_of (Ok (Call firm trade id command)) (Some number) =
    Some (record { number = number; id = id; command = command })
call_of _ _ = None

-- what a verdict on a message, or on none, does
abbrev pub acts : Timestamp → Seen → Option Message → Option Called → Verdict → Outcome
acts now s came call v = record {
  after = record s { link = v.link };
  time = time_of now;
  again = v.resend;
  send = resends (time_of now) s.kept v.resend ++ sayings came s.link.next v.say;
  call = call;
  close = v.link.closed;
}

-- what the table decides of a message
abbrev pub message_verdict : Timestamp → Seen → Message → Verdict
message_verdict now s fs =
    on_message now s.house s.link (heading_of s.house.house fs) (meaning_of s.house.house fs)
    (equals_text (codes "5") (value_of 35 fs))

-- what a verdict on a message does
abbrev pub takes : Timestamp → Seen → Message → Verdict → Outcome
takes now s fs v = acts now s (Some fs) (call_of (meaning_of s.house.house fs) v.call) v

-- new application messages go out, and the last are kept
abbrev pub tells : Timestamp → Seen → List Kept → Outcome
tells now s fresh = record {
  after = record s {
    link = record s.link {
      waiting = None;
      next = s.link.next + length fresh;
      went = went_at now fresh s.link.went;
    };
    kept = last_kept (s.kept ++ fresh);
  };
  time = time_of now;
  again = None;
  send = map new fresh;
  call = None;
  close = false;
}

-- a Reply; before the Logon there is nobody to tell
abbrev pub replies : Timestamp → Seen → Option (List ℕ) → Option Answer → List Report → Outcome
replies now s None answer reports = idle now s
replies now s (Some firm) answer reports =
    tells now s
    (kept_from (time_of now) s.link.next (reply_bodies (time_of now) s.link.waiting answer reports))

-- what an event does to a session that is open
abbrev pub on_event : Timestamp → Seen → Event → Outcome
on_event now s (Came fs) = takes now s fs (message_verdict now s fs)
on_event now s Tick = acts now s None None (on_tick now s.link s.link.firm)
on_event now s (Reply answer reports) = replies now s s.link.firm answer reports
on_event now s End = shut_down now s

-- a step; a closed session does nothing
abbrev pub step_of : Timestamp → Seen → Event → Outcome
step_of now s e = if s.link.closed then idle now s else where_it_fits now s (on_event now s e)

-- a session before its Logon: no moment is known yet, and the two that stand here are never read
abbrev pub opening : House → Timestamp → Seen
opening house never = record {
  house = house;
  link = record {
    firm = None;
    closed = false;
    waiting = None;
    expected = 1;
    next = 1;
    asked = None;
    heartbeat = 0;
    came = never;
    went = never;
    tested = false;
  };
  kept = [];
}
