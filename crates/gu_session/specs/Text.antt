-- A step as its caller sees it: the bytes of what goes out.
use Rattle.std.specs.Prelude.{◌≡◌, ℕ, Bool, List, [], ◌++◌, Option, Some, None, option_map}
use Rattle.std.specs.List.{All, flat_map}
use Rattle.jiff.specs.Types.{Timestamp}
use Rattle.gu_codec.specs.Answer.{pairs}
use Rattle.gu_codec.specs.Messages.{Message}
use Rattle.gu_codec.specs.declared.fields.Fields.{Fields}
use Rattle.gu_codec.specs.Writing.{frame_text, fields_text, header_pairs}
use Rattle.gu_message.specs.AllocationReport.{ShowsFewParts}
use Rattle.gu_session.specs.declared.event.Event.{Event as TheEvent}
use Rattle.gu_session.specs.declared.event.Event.TheVariants as event
use Rattle.gu_session.specs.declared.event.Actions.{Actions}
use Rattle.gu_session.specs.Going.{Going}
use Rattle.gu_session.specs.Steps.{Event, Came, Tick, Reply, End, Seen, Outcome, step_of}

-- the frame of a message from the house to a firm at a time
abbrev pub text_of : List ℕ → List ℕ → List ℕ → Going → List ℕ
text_of house firm time m =
    frame_text (fields_text
    (header_pairs (record {
      kind = m.kind;
      sender = house;
      target = firm;
      number = m.number;
      sent = time;
      resent = m.first;
    }))
    ++ m.body)

-- the frames of messages, one after the other; before the Logon there is nobody to send to
abbrev pub wire : List ℕ → Option (List ℕ) → List ℕ → List Going → List ℕ
wire house None time ms = []
wire house (Some firm) time ms = flat_map (text_of house firm time) ms

-- the fields of a message, if there is one
abbrev pub fields_of : Option Fields → Option Message
fields_of came = option_map pairs came

-- an event as the table reads it
abbrev pub seen_event : TheEvent → Event
seen_event (event.Message fields) = Came (pairs fields)
seen_event event.Tick = Tick
seen_event (event.Reply answer reports) = Reply answer reports.items
seen_event event.End = End

-- each report of a Reply shows at most 100 parts
abbrev pub ShowFewParts : TheEvent → Type 0
ShowFewParts (event.Reply answer reports) = All ShowsFewParts reports.items
ShowFewParts _ = Unit {0}

-- nothing is sent and no call is made
pub record IsEmpty (close : Bool) (a : Actions) : Type 0 where
  pub send : a.send.items ≡ []
  pub call : a.call ≡ None
  pub close_is : a.close ≡ close

-- the session and its actions are what the step says
pub record Gives (o : Outcome) (after : Seen) (a : Actions) : Type 0 where
  pub session : after ≡ o.after
  pub send : a.send.items ≡ wire o.after.house.house o.after.link.firm o.time o.send
  pub call : a.call ≡ option_map (λ c. (c.id, c.command)) o.call
  pub close : a.close ≡ o.close

-- `step` does what the table says of this event at this moment
abbrev pub Steps : Timestamp → TheEvent → Seen → Seen → Actions → Type 0
Steps now e before after a = Gives (step_of now before (seen_event e)) after a
