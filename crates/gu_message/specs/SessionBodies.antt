-- The bodies of the session's messages, as their fields.
use Rattle.std.specs.Prelude.{ℕ, Bool, true, false, List, [], ◌∷◌, ◌++◌, codes, decimal, Option}
use Rattle.std.specs.Prelude.{Some, None}
use Rattle.gu_codec.specs.Messages.{Message}
use Rattle.gu_codec.specs.Tags as tag
use Rattle.gu_message.specs.declared.session_bodies.LogoutText.{LogoutText}
use Rattle.gu_message.specs.declared.session_bodies.LogoutText.TheVariants.{BadHeader, NumberTooLow}
use Rattle.gu_message.specs.declared.session_bodies.LogoutText.TheVariants.{SecondLogon}
use Rattle.gu_message.specs.declared.session_bodies.LogoutText.TheVariants.{NoHeartbeat}

-- ResetSeqNumFlag (141), where it was asked for
abbrev pub reset_fields : Bool → Message
reset_fields false = []
reset_fields true = (tag.reset_seq_num_flag, codes "Y") ∷ []

-- Logon (A): EncryptMethod (98) `0`, HeartBtInt (108), DefaultApplVerID (1137) `9`, ResetSeqNumFlag
-- (141) where it was asked for
abbrev pub logon_fields : ℕ → Bool → Message
logon_fields heartbeat reset =
    (tag.encrypt_method, codes "0") ∷ (tag.heart_bt_int, decimal heartbeat)
    ∷ (tag.default_appl_ver_id, codes "9") ∷ reset_fields reset

-- Heartbeat (0): TestReqID (112), where it answers a TestRequest
abbrev pub heartbeat_fields : Option (List ℕ) → Message
heartbeat_fields None = []
heartbeat_fields (Some id) = (tag.test_req_id, id) ∷ []

-- TestRequest (1): TestReqID (112)
abbrev pub test_request_fields : Message
test_request_fields = (tag.test_req_id, codes "TEST") ∷ []

-- ResendRequest (2): BeginSeqNo (7), and EndSeqNo (16) `0`, all that follow
abbrev pub resend_request_fields : ℕ → Message
resend_request_fields from = (tag.begin_seq_no, decimal from) ∷ (tag.end_seq_no, codes "0") ∷ []

-- SequenceReset (4) that fills a gap: GapFillFlag (123) `Y`, NewSeqNo (36)
abbrev pub sequence_reset_fields : ℕ → Message
sequence_reset_fields next = (tag.gap_fill_flag, codes "Y") ∷ (tag.new_seq_no, decimal next) ∷ []

-- why the service ends a session
abbrev pub logout_text : LogoutText → List ℕ
logout_text BadHeader = codes "bad header"
logout_text (NumberTooLow expected) = codes "sequence number too low, expected " ++ decimal expected
logout_text SecondLogon = codes "second logon"
logout_text NoHeartbeat = codes "no heartbeat"

-- Logout (5): Text (58), where there is one
abbrev pub logout_fields : Option LogoutText → Message
logout_fields None = []
logout_fields (Some t) = (tag.text, logout_text t) ∷ []
