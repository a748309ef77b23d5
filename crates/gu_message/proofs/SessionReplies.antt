-- The messages of the session are lawful.
use Rattle.std.proofs.Common.{ℕ, ◌≤◌, Bool, true, false, List, [], length, refl, arith, IsTrue}
use Rattle.std.specs.Prelude.{Option, Some, None, IfSome, codes, decimal}
use Rattle.gu_base.specs.Names.{is_firm_text}
use Rattle.gu_message.specs.declared.session_bodies.LogoutText.{LogoutText}
use Rattle.gu_message.specs.declared.session_bodies.LogoutText.TheVariants.{BadHeader, NumberTooLow, SecondLogon}
use Rattle.gu_message.specs.declared.session_bodies.LogoutText.TheVariants.{NoHeartbeat}
use Rattle.gu_message.specs.SessionBodies.{logon_fields, heartbeat_fields, test_request_fields, resend_request_fields}
use Rattle.gu_message.specs.SessionBodies.{sequence_reset_fields, logout_text, logout_fields}
use Rattle.gu_message.specs.Reply.{IsLawfulReply}
use Rattle.gu_message.specs.SessionReplies.{to_firm, IsTestReqId, SessionMessagesAreLawful}
use Rattle.gu_message.proofs.Replies.{IsShort, short, joined, decimal_shown, decimal_short, byte_short, given}
use Rattle.gu_message.proofs.Replies.{reply_lawful}

-- a Logon (A)
logon_lawful : (firm : List ℕ) → IsTrue (is_firm_text firm) → (heartbeat : ℕ) (reset : Bool)
    → IsLawfulReply (to_firm firm (codes "A") (logon_fields heartbeat reset))
logon_lawful firm t heartbeat false =
    reply_lawful firm (codes "A") (logon_fields heartbeat false) t refl (omega arith) (
      given 98 _ refl (byte_short 48 refl),
      (given 108 _ refl (decimal_short heartbeat), (given 1137 _ refl (byte_short 57 refl), tt)),
    )
logon_lawful firm t heartbeat true =
    reply_lawful firm (codes "A") (logon_fields heartbeat true) t refl (omega arith) (
      given 98 _ refl (byte_short 48 refl),
      (
        given 108 _ refl (decimal_short heartbeat),
        (given 1137 _ refl (byte_short 57 refl), (given 141 _ refl (byte_short 89 refl), tt)),
      ),
    )

-- a Heartbeat (0)
heartbeat_lawful : (firm : List ℕ) → IsTrue (is_firm_text firm) → (id : Option (List ℕ)) → IfSome id IsTestReqId
    → IsLawfulReply (to_firm firm (codes "0") (heartbeat_fields id))
heartbeat_lawful firm t None h = reply_lawful firm (codes "0") [] t refl (omega arith) tt
heartbeat_lawful firm t (Some id) h =
    let few : length id ≤ 400 = omega (arith, h.short) in
    reply_lawful firm (codes "0") (heartbeat_fields (Some id)) t refl (omega arith)
    (given 112 id refl (record { value = h.value; few = few }), tt)

-- a TestRequest (1)
test_request_lawful : (firm : List ℕ) → IsTrue (is_firm_text firm)
    → IsLawfulReply (to_firm firm (codes "1") test_request_fields)
test_request_lawful firm t =
    reply_lawful firm (codes "1") test_request_fields t refl (omega arith) (
      given 112 (codes "TEST") refl
          (short 1 4 (codes "TEST") (omega arith) (omega arith)
          (record { clear = refl; some = omega arith; few = omega arith })),
      tt,
    )

-- a ResendRequest (2)
resend_request_lawful : (firm : List ℕ) → IsTrue (is_firm_text firm) → (from : ℕ)
    → IsLawfulReply (to_firm firm (codes "2") (resend_request_fields from))
resend_request_lawful firm t from =
    reply_lawful firm (codes "2") (resend_request_fields from) t refl (omega arith)
    (given 7 _ refl (decimal_short from), (given 16 _ refl (byte_short 48 refl), tt))

-- a SequenceReset (4)
sequence_reset_lawful : (firm : List ℕ) → IsTrue (is_firm_text firm) → (next : ℕ)
    → IsLawfulReply (to_firm firm (codes "4") (sequence_reset_fields next))
sequence_reset_lawful firm t next =
    reply_lawful firm (codes "4") (sequence_reset_fields next) t refl (omega arith)
    (given 123 _ refl (byte_short 89 refl), (given 36 _ refl (decimal_short next), tt))

-- a Logout (5)
logout_short : (text : LogoutText) → IsShort (logout_text text)
logout_short BadHeader =
    short 1 20 (codes "bad header") (omega arith) (omega arith)
    (record { clear = refl; some = omega arith; few = omega arith })
logout_short SecondLogon =
    short 1 20 (codes "second logon") (omega arith) (omega arith)
    (record { clear = refl; some = omega arith; few = omega arith })
logout_short NoHeartbeat =
    short 1 20 (codes "no heartbeat") (omega arith) (omega arith)
    (record { clear = refl; some = omega arith; few = omega arith })
logout_short (NumberTooLow expected) =
    short 1 104 (logout_text (NumberTooLow expected)) (omega arith) (omega arith)
    (joined 0 40 1 64 (codes "sequence number too low, expected ") (decimal expected)
    (record { clear = refl; some = omega arith; few = omega arith }) (decimal_shown expected))

logout_lawful : (firm : List ℕ) → IsTrue (is_firm_text firm) → (text : Option LogoutText)
    → IsLawfulReply (to_firm firm (codes "5") (logout_fields text))
logout_lawful firm t None = reply_lawful firm (codes "5") [] t refl (omega arith) tt
logout_lawful firm t (Some text) =
    reply_lawful firm (codes "5") (logout_fields (Some text)) t refl (omega arith)
    (given 58 (logout_text text) refl (logout_short text), tt)

-- each of them
pub all_lawful : SessionMessagesAreLawful
all_lawful firm t = record {
  logon = logon_lawful firm t;
  heartbeat = heartbeat_lawful firm t;
  test_request = test_request_lawful firm t;
  resend_request = resend_request_lawful firm t;
  sequence_reset = sequence_reset_lawful firm t;
  logout = logout_lawful firm t;
}
