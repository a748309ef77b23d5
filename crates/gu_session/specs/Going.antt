-- What goes out.
use Rattle.std.specs.Prelude.{ℕ, ◌+◌, List, [], Option, None, codes}
use Rattle.std.specs.Option.{option_map_or}
use Rattle.gu_codec.specs.Messages.{Message}
use Rattle.gu_codec.specs.Writing.{fields_text}
use Rattle.gu_message.specs.SessionBodies.{logon_fields, heartbeat_fields, test_request_fields}
use Rattle.gu_message.specs.SessionBodies.{resend_request_fields, logout_fields}
use Rattle.gu_message.specs.SessionReject.{reject_fields}
use Rattle.gu_session.specs.declared.verdict.Say.{Say}
use Rattle.gu_session.specs.declared.verdict.Say.TheVariants as say
use Rattle.gu_session.specs.declared.kept.AppType.{AppType}
use Rattle.gu_session.specs.declared.kept.AppType.TheVariants as app

-- a message that goes out: MsgType (35); MsgSeqNum (34); the number behind those that it stands
-- for, which is the next one but for a gap that is filled; OrigSendingTime (122), where it is sent
-- again; the text of its fields behind the header
pub record Going : Type 0 where
  pub kind : List ℕ
  pub number : ℕ
  pub next : ℕ
  pub first : Option (List ℕ)
  pub body : List ℕ

-- MsgType (35) of what the session says
abbrev pub type_of_say : Say → List ℕ
type_of_say (say.Logon heartbeat reset) = codes "A"
type_of_say (say.Heartbeat answered) = codes "0"
type_of_say say.TestRequest = codes "1"
type_of_say (say.ResendRequest from) = codes "2"
type_of_say (say.Reject fault) = codes "3"
type_of_say (say.Logout text) = codes "5"

-- its fields behind the header; a Reject is about the message that came
abbrev pub fields_of_say : Option Message → Say → Message
fields_of_say came (say.Logon heartbeat reset) = logon_fields heartbeat reset
fields_of_say came (say.Heartbeat answered) = heartbeat_fields answered
fields_of_say came say.TestRequest = test_request_fields
fields_of_say came (say.ResendRequest from) = resend_request_fields from
fields_of_say came (say.Reject fault) = option_map_or (λ fs. reject_fields fs fault) came []
fields_of_say came (say.Logout text) = logout_fields text

-- MsgType (35) of an application message
abbrev pub type_of_app : AppType → List ℕ
type_of_app app.Ack = codes "P"
type_of_app app.TradeAck = codes "AR"
type_of_app app.Report = codes "AS"

-- what the session says, as a new message with this number
abbrev pub said : Option Message → ℕ → Say → Going
said came number s = record {
  kind = type_of_say s;
  number = number;
  next = number + 1;
  first = None;
  body = fields_text (fields_of_say came s);
}
