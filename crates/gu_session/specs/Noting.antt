-- What an operator is told of a step and of a session.
use Rattle.std.specs.Prelude.{ℕ, Bool, true, false, if◌then◌else◌, List, length, codes, Option}
use Rattle.std.specs.Prelude.{Some, None, Result, option_map}
use Rattle.jiff.specs.Types.{Timestamp}
use Rattle.gu_message.specs.declared.fault.Reject.{Reject}
use Rattle.gu_message.specs.declared.heading.Heading.{Heading}
use Rattle.gu_message.specs.declared.inbound.Inbound.{Inbound}
use Rattle.gu_message.specs.Finding.{value_of, equals_text}
use Rattle.gu_message.specs.Heading.{heading_of}
use Rattle.gu_message.specs.Meaning.{meaning_of}
use Rattle.gu_session.specs.declared.line.TableLine.{TableLine}
use Rattle.gu_session.specs.declared.line.TableLine.TheVariants as line
use Rattle.gu_session.specs.declared.link.LinkState.{LinkState}
use Rattle.gu_session.specs.declared.noted.Gap.{Gap}
use Rattle.gu_session.specs.declared.noted.Noted.{Noted}
use Rattle.gu_session.specs.declared.verdict.Say.{Say}
use Rattle.gu_session.specs.declared.verdict.Say.TheVariants as say
use Rattle.gu_session.specs.declared.verdict.Span.{Span}
use Rattle.gu_session.specs.declared.verdict.Verdict.{Verdict}
use Rattle.gu_session.specs.Keeping.{Kept}
use Rattle.gu_session.specs.Steps.{Event, Came, Seen, fits, message_verdict, within}
use Rattle.gu_session.specs.Table.{line_of}

-- the gap that is open: the first number that lacks, and the highest that came behind it
abbrev pub gap_of : LinkState → Option Gap
gap_of l = option_map (λ highest. record { expected = l.expected; highest = highest }) l.asked

-- nothing
abbrev pub nothing : Noted
nothing = record { reject = None; dropped = false; resent = 0 }

-- the Reject that is said, if one is
abbrev pub rejected : Option Say → Option Reject
rejected (Some (say.Reject fault)) = Some fault
rejected _ = None

-- a message is dropped by the line of a gap
abbrev pub is_above_gap : TableLine → Bool
is_above_gap (line.Gap number) = true
is_above_gap _ = false

-- by the line of a message behind the Logon
abbrev pub is_dropped : LinkState → Option (List ℕ) → Result Heading Reject → Result Inbound Reject
    → Bool → Bool
is_dropped l None heading meaning is_logout = false
is_dropped l (Some firm) heading meaning is_logout =
    is_above_gap (line_of l firm heading meaning is_logout)

-- how many kept messages are sent again for a span, if there is one
abbrev pub resent_for : List Kept → Option Span → ℕ
resent_for kept None = 0
resent_for kept (Some span) = length (within span.from span.next kept)

-- what the table's verdict on a message has of it
abbrev pub noted_by : LinkState → List Kept → Result Heading Reject → Result Inbound Reject → Bool
    → Verdict → Noted
noted_by l kept heading meaning is_logout v = record {
  reject = rejected v.say;
  dropped = is_dropped l l.firm heading meaning is_logout;
  resent = resent_for kept v.resend;
}

-- where its numbers fit
abbrev pub noted_where_it_fits : Seen → Result Heading Reject → Result Inbound Reject → Bool
    → Verdict → Noted
noted_where_it_fits s heading meaning is_logout v =
    if fits v.link then noted_by s.link s.kept heading meaning is_logout v else nothing

-- an event of an open session: only a message's step has any
abbrev pub noted_on : Timestamp → Seen → Event → Noted
noted_on now s (Came fs) =
    noted_where_it_fits s (heading_of s.house.house fs) (meaning_of s.house.house fs)
    (equals_text (codes "5") (value_of 35 fs)) (message_verdict now s fs)
noted_on now s _ = nothing

-- a step; a closed session does nothing
abbrev pub noted_of : Timestamp → Seen → Event → Noted
noted_of now s e = if s.link.closed then nothing else noted_on now s e
