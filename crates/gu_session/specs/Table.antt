-- The table of the session: what an event decides, line by line.
use Rattle.std.specs.Prelude.{ℕ, ◌+◌, ◌-◌, ◌*◌, max, nat_lt, nat_le, ◌==◌, ◌||◌, ◌&&◌, not, Bool}
use Rattle.std.specs.Prelude.{true, false, if◌then◌else◌, bytes_eq, List, Option, Some, None}
use Rattle.std.specs.Prelude.{Result, Ok, Err, ℤ, pos, negsuc, ◌-ℤ◌, int_div}
use Rattle.jiff.specs.Types.{Timestamp}
use Rattle.gu_base.specs.House.{House, knows_firm}
use Rattle.gu_message.specs.declared.heading.Heading.{Heading}
use Rattle.gu_message.specs.declared.fault.Reject.{Reject}
use Rattle.gu_message.specs.declared.inbound.Inbound.{Inbound}
use Rattle.gu_message.specs.declared.inbound.Inbound.TheVariants as inbound
use Rattle.gu_message.specs.declared.session_bodies.LogoutText.{LogoutText}
use Rattle.gu_message.specs.declared.session_bodies.LogoutText.TheVariants as text
use Rattle.gu_message.specs.Checks.{bad_value}
use Rattle.gu_session.specs.declared.link.LinkState.{LinkState}
use Rattle.gu_session.specs.declared.line.TableLine.{TableLine}
use Rattle.gu_session.specs.declared.line.TableLine.TheVariants as line
use Rattle.gu_session.specs.declared.verdict.Span.{Span}
use Rattle.gu_session.specs.declared.verdict.Say.{Say}
use Rattle.gu_session.specs.declared.verdict.Say.TheVariants as say
use Rattle.gu_session.specs.declared.verdict.Verdict.{Verdict}

-- ---- what a line may decide

-- nothing is sent
abbrev pub silent : LinkState → Verdict
silent l = record { link = l; resend = None; say = None; call = None }

-- one new message
abbrev pub says : Timestamp → LinkState → Say → Verdict
says now l s = record {
  link = record l { next = l.next + 1; went = now };
  resend = None;
  say = Some s;
  call = None;
}

-- a Logout, and the session is closed
abbrev pub closes : Timestamp → LinkState → Option LogoutText → Verdict
closes now l t = says now (record l { closed = true; waiting = None }) (say.Logout t)

-- the session is closed, and nothing is sent
abbrev pub shut : LinkState → Verdict
shut l = silent (record l { closed = true; waiting = None })

-- what is sent again goes out first, where there is anything
abbrev pub again : Timestamp → Option Span → Verdict → Verdict
again now None v = v
again now (Some span) v = record v { link = record v.link { went = now }; resend = Some span }

-- a call is handed out, and waits for its Reply
abbrev pub hands_out : LinkState → ℕ → Bool → List ℕ → Verdict
hands_out l number trade id = record {
  link = record l { waiting = Some (record { trade = trade; id = id }) };
  resend = None;
  say = None;
  call = Some number;
}

-- ---- what a ResendRequest asks for, of what was sent

-- its end: 0 and a number past the last sent mean the last sent
abbrev pub last_asked : ℕ → ℕ → ℕ
last_asked next to = if (to == 0) || nat_le next to then next - 1 else to

-- nothing where its beginning is past that
abbrev pub span_of : ℕ → ℕ → ℕ → Option Span
span_of next from to =
    if nat_le from (last_asked next to)
    then Some (record { from = from; next = last_asked next to + 1 })
    else None

-- what a message asks for, if it is a ResendRequest
abbrev pub resend_of : ℕ → Result Inbound Reject → Option Span
resend_of next (Ok (inbound.ResendRequest from to)) = span_of next from to
resend_of next _ = None

-- ---- before the Logon

-- a Logon that is understood: from a firm of the house, with the number 1
abbrev pub first_logon : Timestamp → House → LinkState → Heading → ℕ → Bool → Verdict
first_logon now t l h heartbeat reset =
    if (h.number == 1) && knows_firm t h.firm
    then says now (record l { firm = Some h.firm; expected = 2; heartbeat = heartbeat; came = now })
    (say.Logon heartbeat reset)
    else shut l

-- anything else closes the session
abbrev pub before_logon : Timestamp → House → LinkState → Result Heading Reject
    → Result Inbound Reject → Verdict
before_logon now t l (Ok h) (Ok (inbound.Logon heartbeat reset)) =
    first_logon now t l h heartbeat reset
before_logon now t l heading meaning = shut l

-- ---- after it: the first line that holds

-- NewSeqNo (36) of a SequenceReset that is understood and has no GapFillFlag (123) Y
abbrev pub reset_to : Result Inbound Reject → Option ℕ
reset_to (Ok (inbound.SequenceReset false next)) = Some next
reset_to _ = None

-- lines 2 to 7; line 5 holds of each Logout, understood or not
abbrev pub line_by_number : LinkState → Heading → Option ℕ → Bool → TableLine
line_by_number l h (Some next) is_logout = line.Reset next
line_by_number l h None is_logout =
    if nat_lt h.number l.expected && h.poss_dup then line.Duplicate
    else (if nat_lt h.number l.expected then line.TooLow
    else (if nat_lt l.expected h.number && is_logout then line.LogoutAbove
    else (if nat_lt l.expected h.number then line.Gap h.number
    else line.Expected h.number)))

-- line 1 is the header's: another firm, another house, or a number that can't be read
abbrev pub line_of : LinkState → List ℕ → Result Heading Reject → Result Inbound Reject → Bool
    → TableLine
line_of l firm (Err fault) meaning is_logout = line.BadHeader
line_of l firm (Ok h) meaning is_logout =
    if bytes_eq h.firm firm then line_by_number l h (reset_to meaning) is_logout else line.BadHeader

-- ---- what the line decides

-- the expected number is set, where it doesn't fall
abbrev pub resets : Timestamp → LinkState → ℕ → Verdict
resets now l new_number =
    if nat_le l.expected new_number then silent (record l { expected = new_number })
    else says now l (say.Reject (bad_value 36))

-- a gap is asked for once, from the expected number on
abbrev pub asks : Timestamp → LinkState → ℕ → Option ℕ → Verdict
asks now l number None = says now (record l { asked = Some number }) (say.ResendRequest l.expected)
asks now l number (Some highest) = silent (record l { asked = Some (max highest number) })

-- numbers that are passed over
abbrev pub fills : Timestamp → LinkState → ℕ → ℕ → Verdict
fills now l number new_number =
    if nat_lt number new_number then silent (record l { expected = new_number })
    else says now l (say.Reject (bad_value 36))

-- the message with the expected number, by its type
abbrev pub by_type : Timestamp → LinkState → ℕ → Result Inbound Reject → Verdict
by_type now l number (Err fault) = says now l (say.Reject fault)
by_type now l number (Ok inbound.Heartbeat) = silent l
by_type now l number (Ok inbound.Reject) = silent l
by_type now l number (Ok (inbound.TestRequest id)) = says now l (say.Heartbeat (Some id))
by_type now l number (Ok inbound.Logout) = closes now l None
by_type now l number (Ok (inbound.Logon heartbeat reset)) = closes now l (Some text.SecondLogon)
by_type now l number (Ok (inbound.SequenceReset gap_fill next)) = fills now l number next
by_type now l number (Ok (inbound.ResendRequest from to)) =
    again now (span_of l.next from to) (silent l)
by_type now l number (Ok (inbound.Call firm trade id command)) = hands_out l number trade id

-- what the first line that holds decides
abbrev pub on_line : Timestamp → LinkState → Result Inbound Reject → TableLine → Verdict
on_line now l meaning line.BadHeader = closes now l (Some text.BadHeader)
on_line now l meaning (line.Reset next) = resets now l next
on_line now l meaning line.Duplicate = silent l
on_line now l meaning line.TooLow = closes now l (Some (text.NumberTooLow l.expected))
on_line now l meaning line.LogoutAbove = closes now l None
on_line now l meaning (line.Gap number) =
    again now (resend_of l.next meaning) (asks now l number l.asked)
on_line now l meaning (line.Expected number) =
    by_type now (record l { expected = l.expected + 1 }) number meaning

-- ---- a message

-- it came
abbrev pub heard : Timestamp → LinkState → LinkState
heard now l = record l { came = now; tested = false }

-- before the Logon, or after it
abbrev pub by_firm : Timestamp → House → LinkState → Option (List ℕ) → Result Heading Reject
    → Result Inbound Reject → Bool → Verdict
by_firm now t l None heading meaning is_logout = before_logon now t l heading meaning
by_firm now t l (Some firm) heading meaning is_logout =
    on_line now (heard now l) meaning (line_of l firm heading meaning is_logout)

-- a gap that was asked for is closed as soon as the expected number is past it
abbrev pub open_gap : ℕ → Option ℕ → Option ℕ
open_gap expected None = None
open_gap expected (Some highest) = if nat_lt highest expected then None else Some highest

-- the same of a verdict
abbrev pub settled : Verdict → Verdict
settled v = record v { link = record v.link { asked = open_gap v.link.expected v.link.asked } }

-- what a message decides
abbrev pub on_message : Timestamp → House → LinkState → Result Heading Reject
    → Result Inbound Reject → Bool → Verdict
on_message now t l heading meaning is_logout =
    settled (by_firm now t l l.firm heading meaning is_logout)

-- ---- Tick

-- a number of seconds, and 0 for less than none
abbrev pub whole : ℤ → ℕ
whole (pos n) = n
whole (negsuc n) = 0

-- whole seconds from one moment to another, 0 where that is earlier
abbrev pub waited : Timestamp → Timestamp → ℕ
waited since now = whole (int_div (now.nanosecond -ℤ since.nanosecond) (pos 1_000_000_000))

-- the first line that holds: no heartbeats were agreed; nothing came for three of them; nothing
-- came for two, and no TestRequest was sent since; nothing was sent for one
abbrev pub by_silence : Timestamp → LinkState → Verdict
by_silence now l =
    if l.heartbeat == 0 then silent l
    else (if nat_le (3 * l.heartbeat) (waited l.came now) then closes now l (Some text.NoHeartbeat)
    else (if nat_le (2 * l.heartbeat) (waited l.came now) && not l.tested
    then says now (record l { tested = true }) say.TestRequest
    else (if nat_le l.heartbeat (waited l.went now) then says now l (say.Heartbeat None)
    else silent l)))

-- what a Tick decides: nothing before the Logon
abbrev pub on_tick : Timestamp → LinkState → Option (List ℕ) → Verdict
on_tick now l None = silent l
on_tick now l (Some firm) = by_silence now l
