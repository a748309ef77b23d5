-- The messages of the session are lawful.
use Rattle.std.specs.Prelude.{ℕ, ◌≤◌, Bool, codes, List, length, Option, IfSome, IsTrue}
use Rattle.gu_base.specs.Names.{is_firm_text}
use Rattle.gu_codec.specs.Fields.{IsValue}
use Rattle.gu_codec.specs.Messages.{Message}
use Rattle.gu_message.specs.declared.session_bodies.LogoutText.{LogoutText}
use Rattle.gu_message.specs.Limits.{longest_test_req_id}
use Rattle.gu_message.specs.SessionBodies.{logon_fields, heartbeat_fields, test_request_fields}
use Rattle.gu_message.specs.SessionBodies.{resend_request_fields, sequence_reset_fields}
use Rattle.gu_message.specs.SessionBodies.{logout_fields}
use Rattle.gu_message.specs.Reply.{Reply, IsLawfulReply}

-- a message of this type to a firm
abbrev pub to_firm : List ℕ → List ℕ → Message → Reply
to_firm firm kind fields = record { target = firm; kind = kind; fields = fields }

-- a TestReqID (112) that came in a message
pub record IsTestReqId (id : List ℕ) : Type 0 where
  pub value : IsValue id
  pub short : length id ≤ longest_test_req_id

-- each message of the session to this firm is lawful
pub record AreLawful (firm : List ℕ) : Type 0 where
  pub logon : (heartbeat : ℕ) (reset : Bool)
      → IsLawfulReply (to_firm firm (codes "A") (logon_fields heartbeat reset))
  pub heartbeat : (id : Option (List ℕ)) → IfSome id IsTestReqId
      → IsLawfulReply (to_firm firm (codes "0") (heartbeat_fields id))
  pub test_request : IsLawfulReply (to_firm firm (codes "1") test_request_fields)
  pub resend_request : (from : ℕ)
      → IsLawfulReply (to_firm firm (codes "2") (resend_request_fields from))
  pub sequence_reset : (next : ℕ)
      → IsLawfulReply (to_firm firm (codes "4") (sequence_reset_fields next))
  pub logout : (text : Option LogoutText)
      → IsLawfulReply (to_firm firm (codes "5") (logout_fields text))

-- to each firm
abbrev pub SessionMessagesAreLawful : Type 0
SessionMessagesAreLawful = (firm : List ℕ) → IsTrue (is_firm_text firm) → AreLawful firm
