-- A message that goes out: what it says, and what its sender adds.
use Rattle.std.specs.Prelude.{ℕ, ◌≤◌, ◌<◌, ◌^◌, Bool, if◌then◌else◌, codes, List, ◌++◌, length}
use Rattle.std.specs.Prelude.{Option, IfSome, IsTrue}
use Rattle.std.specs.List.{AllByRecursion}
use Rattle.gu_base.specs.Names.{is_firm_text}
use Rattle.gu_base.specs.declared.entry.Answer.{Answer}
use Rattle.gu_codec.specs.Limits.{longest_body}
use Rattle.gu_codec.specs.Messages.{Message}
use Rattle.gu_codec.specs.Writing.{HeaderText, IsText, IsLawfulField, fields_text, header_pairs}
use Rattle.gu_message.specs.declared.fault.Reject.{Reject}
use Rattle.gu_message.specs.AllocationAck.{ack_fields}
use Rattle.gu_message.specs.TradeReportAck.{trade_ack_fields}
use Rattle.gu_message.specs.SessionReject.{reject_fields, target_of}

-- to whom, of which type (35), and the fields behind the header
pub record Reply : Type 0 where
  pub target : List ℕ
  pub kind : List ℕ
  pub fields : Message

-- the answer to a firm's call: a TradeCaptureReportAck for a trade, else an
-- AllocationInstructionAck
abbrev pub answer_reply : List ℕ → Bool → List ℕ → Answer → Reply
answer_reply firm trade id answer =
    if trade then record { target = firm; kind = codes "AR"; fields = trade_ack_fields id answer }
    else record { target = firm; kind = codes "P"; fields = ack_fields id answer }

-- the Reject of a message
abbrev pub reject_reply : Message → Reject → Reply
reject_reply message fault =
    record { target = target_of message; kind = codes "3"; fields = reject_fields message fault }

-- ---- sending

-- what the sender adds: its name, a number, the time, and of a resend the time it was sent first
pub record Stamp : Type 0 where
  pub sender : List ℕ
  pub number : ℕ
  pub sent : List ℕ
  pub resent : Option (List ℕ)

-- the header of a reply
abbrev pub header_of : Stamp → Reply → HeaderText
header_of s r = record {
  kind = r.kind;
  sender = s.sender;
  target = r.target;
  number = s.number;
  sent = s.sent;
  resent = s.resent;
}

-- the message that goes out
abbrev pub message_of : Stamp → Reply → Message
message_of s r = header_pairs (header_of s r) ++ r.fields

-- ---- what is lawful

-- a frame may carry it
pub record IsLawfulReply (r : Reply) : Type 0 where
  pub target : IsTrue (is_firm_text r.target)
  pub kind : IsText r.kind
  pub fields : AllByRecursion IsLawfulField r.fields
  pub short : length (fields_text r.fields) ≤ longest_body

-- the sender's part may stand in a header
pub record IsLawfulStamp (s : Stamp) : Type 0 where
  pub sender : IsTrue (is_firm_text s.sender)
  pub number : s.number < 2 ^ 64
  pub sent : IsText s.sent
  pub resent : IfSome s.resent IsText
