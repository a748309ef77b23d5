-- What a turn of a connection does to its session, and what it sends.
use Rattle.std.specs.Prelude.{◌≡◌, ◌⊎◌, ◌≤ℤ◌, ℕ, pos, List, ◌++◌, length, nat_le, true, false}
use Rattle.std.specs.Prelude.{Option, Some, None, Bool, ◌&&◌, not, is_some}
use Rattle.jiff.specs.Types.{Timestamp}
use Rattle.gu_codec.specs.Answer.{pairs}
use Rattle.gu_codec.specs.declared.fields.Fields.{Fields}
use Rattle.gu_codec.specs.declared.frame.Frame.TheVariants.{Whole, Garbled}
use Rattle.gu_codec.specs.Next.{NextAnswers, after}
use Rattle.gu_codec.specs.Stream.{Stream}
use Rattle.gu_base.specs.House.{House}
use Rattle.gu_base.specs.declared.entry.Answer.{Answer}
use Rattle.gu_base.specs.declared.report.Report.{Report}
use Rattle.gu_session.specs.declared.event.Event.{Event}
use Rattle.gu_session.specs.declared.event.Event.TheVariants as event
use Rattle.gu_session.specs.declared.event.Actions.{Actions}
use Rattle.gu_session.specs.Steps.{Seen}
use Rattle.gu_session.specs.Text.{Steps}
use Rattle.gu_trace.specs.Between.{last_told, looked_to}
use Rattle.gu_trace.specs.Reports.{most_reports, reports_for}
use Rattle.gu_command.specs.declared.naming.NamedBook.{NamedBook}
use Rattle.gu_connection.specs.Beginning.{asked_by}
use Rattle.gu_connection.specs.declared.beginning.Beginning.{Beginning}
use Rattle.gu_connection.specs.Standing.{Standing}
use Rattle.gu_connection.specs.declared.connection.Brought.{Brought}
use Rattle.gu_connection.specs.declared.connection.Brought.TheVariants as brought

-- a step of the session by its table, at some moment from 1970 on
abbrev pub StepsNow : Event → Seen → Seen → Actions → Type 0
StepsNow e before after a =
    (now : Timestamp) × (pos 0 ≤ℤ now.nanosecond) × Steps now e before after a

-- the session took the event and stays open, and what it sends was put behind what the turn sends
abbrev pub Speaks : Event → Seen → Seen → List ℕ → List ℕ → Type 0
Speaks e before after out out_after =
    (a : Actions) × StepsNow e before after a × (out_after ≡ out ++ a.send.items)
    × (a.close ≡ false)

-- nothing is sent; or the session took the event and closes, and what it sends was put behind what
-- the turn sends
abbrev pub Shuts : Event → Seen → List ℕ → List ℕ → Type 0
Shuts e before out out_after =
    (out_after ≡ out)
    ⊎ ((after : Seen) × (a : Actions) × StepsNow e before after a
    × (out_after ≡ out ++ a.send.items) × (a.close ≡ true))

-- the event is the reply with this answer, if there is one, and these reports
abbrev pub IsReply : Option Answer → List Report → Event → Type 0
IsReply answer told (event.Reply a reports) = (a ≡ answer) × (reports.items ≡ told)
IsReply answer told _ = ⊥

-- what a reply does to the connection of the firm f: the session took the answer, if there is one,
-- and the firm's reports of the history that the seat has then seen, above the entry up to which
-- was looked, and what it sends of them is sent. Up to which entry was looked, the last that
-- was told of, and that the turn was told of the book, are noted
pub record Replies (t : House) (f : List ℕ) (answer : Option Answer) (before after : Standing)
    : Type 0 where
  pub taken : Event
  pub reply : IsReply answer (reports_for t.house after.seat.seen f before.looked) taken
  pub speaks : Speaks taken before.session after.session before.out after.out
  pub told : after.told
      ≡ last_told before.told (reports_for t.house after.seat.seen f before.looked)
  pub looked : after.looked ≡ looked_to before.looked (length after.seat.seen)
      (reports_for t.house after.seat.seen f before.looked)
  pub behind : after.behind
      ≡ nat_le most_reports (length (reports_for t.house after.seat.seen f before.looked))
  pub tells : after.tells ≡ true

-- the next message of the bytes held, of these fields, is taken from them, and the session's step
-- over it gives this
abbrev pub Learns : Stream → Seen → Seen → Stream → Fields → Actions → Type 0
Learns held before behind left fields a =
    (len : ℕ) × NextAnswers held (Some (Whole fields len))
    × (left ≡ after held (Some (Whole fields len)))
    × StepsNow (event.Message fields) before behind a

-- a firm has logged on by a step
abbrev pub logs_on : Seen → Seen → Bool
logs_on before behind = not (is_some before.link.firm) && is_some behind.link.firm

-- what a message brings, and its step: a Logon, where a firm has logged on by it
abbrev pub message_brings : Bool → Actions → Beginning → Brought
message_brings true a asked = brought.Logon a asked
message_brings false a asked = brought.Message a

-- what the bytes held bring, and what they leave of them: no frame yet, a garbled one, of which the
-- session learns nothing, or a message and the session's step over it; of a Logon that is accepted
-- also what it asks for of this book
abbrev pub Brings : Option NamedBook → Stream → Seen → Seen → Stream → Brought → Type 0
Brings book held before behind left brought.Nothing =
    NextAnswers held None × (left ≡ held) × (behind ≡ before)
Brings book held before behind left brought.Garbled =
    (len : ℕ) × NextAnswers held (Some (Garbled len)) × (left ≡ after held (Some (Garbled len)))
    × (behind ≡ before)
Brings book held before behind left (brought.Message a) =
    (fields : Fields) × Learns held before behind left fields a
    × (logs_on before behind ≡ false)
Brings book held before behind left (brought.Logon a asked) =
    (fields : Fields) × Learns held before behind left fields a
    × (logs_on before behind ≡ true) × (asked ≡ asked_by book (pairs fields))
