-- What the messages of the session mean, by the tags of each type.
use Rattle.std.specs.Prelude.{ℕ, Bool, true, false, nat_le, nat_lt, bytes_eq, codes, if◌then◌else◌}
use Rattle.std.specs.Prelude.{List, length, Option, Some, None, Result, Ok, Err}
use Rattle.std.specs.Option.{ok_or}
use Rattle.gu_codec.specs.Tags as tags
use Rattle.gu_message.specs.declared.fault.Reject.{Reject}
use Rattle.gu_message.specs.declared.inbound.Inbound.{Inbound}
use Rattle.gu_message.specs.declared.inbound.Inbound.TheVariants as inbound
use Rattle.gu_message.specs.Limits.{longest_test_req_id}
use Rattle.gu_message.specs.Finding.{value_of}
use Rattle.gu_message.specs.Checks.{◌>>=◌, needed, count_in, bad_value, bad_kind, bad_type, guard}

-- a flag: `Y` or `N`
unfoldable pub flag_of : List ℕ → Option Bool
flag_of t =
    if bytes_eq t (codes "Y") then Some true
    else (if bytes_eq t (codes "N") then Some false else None)

-- a flag that may be missing, and then counts as `N`
abbrev pub flag_if : ℕ → Option (List ℕ) → Result Bool Reject
flag_if tag None = Ok false
flag_if tag (Some t) = ok_or (flag_of t) (bad_kind tag)

-- the flag of this tag
abbrev pub flag_in : ℕ → List (ℕ × List ℕ) → Result Bool Reject
flag_in tag fs = flag_if tag (value_of tag fs)

-- Logon (A): EncryptMethod (98) `0`, HeartBtInt (108), DefaultApplVerID (1137) `9`, ResetSeqNumFlag
-- (141)
unfoldable pub logon_of : List (ℕ × List ℕ) → Result Inbound Reject
logon_of fs = do
  method ← needed tags.encrypt_method fs
  _ ← guard (bytes_eq method (codes "0")) (bad_value tags.encrypt_method)
  heartbeat ← count_in tags.heart_bt_int fs
  version ← needed tags.default_appl_ver_id fs
  _ ← guard (bytes_eq version (codes "9")) (bad_value tags.default_appl_ver_id)
  reset ← flag_in tags.reset_seq_num_flag fs
  Ok (inbound.Logon heartbeat reset)

-- a TestReqID (112) that isn't too long
abbrev pub test_req_id_of : List ℕ → Option (List ℕ)
test_req_id_of t = if nat_le (length t) longest_test_req_id then Some t else None

-- TestRequest (1): TestReqID (112)
unfoldable pub test_request_of : List (ℕ × List ℕ) → Result Inbound Reject
test_request_of fs = do
  text ← needed tags.test_req_id fs
  id ← ok_or (test_req_id_of text) (bad_value tags.test_req_id)
  Ok (inbound.TestRequest id)

-- ResendRequest (2): BeginSeqNo (7) above zero, EndSeqNo (16)
unfoldable pub resend_request_of : List (ℕ × List ℕ) → Result Inbound Reject
resend_request_of fs = do
  from ← count_in tags.begin_seq_no fs
  _ ← guard (nat_lt 0 from) (bad_value tags.begin_seq_no)
  to ← count_in tags.end_seq_no fs
  Ok (inbound.ResendRequest from to)

-- SequenceReset (4): GapFillFlag (123), NewSeqNo (36)
unfoldable pub sequence_reset_of : List (ℕ × List ℕ) → Result Inbound Reject
sequence_reset_of fs = do
  gap_fill ← flag_in tags.gap_fill_flag fs
  next ← count_in tags.new_seq_no fs
  Ok (inbound.SequenceReset gap_fill next)

-- the tags of each type of the session
unfoldable pub session_message_of : List ℕ → List (ℕ × List ℕ) → Result Inbound Reject
session_message_of t fs =
    if bytes_eq t (codes "0") then Ok inbound.Heartbeat
    else (if bytes_eq t (codes "1") then test_request_of fs
    else (if bytes_eq t (codes "2") then resend_request_of fs
    else (if bytes_eq t (codes "3") then Ok inbound.Reject
    else (if bytes_eq t (codes "4") then sequence_reset_of fs
    else (if bytes_eq t (codes "5") then Ok inbound.Logout
    else (if bytes_eq t (codes "A") then logon_of fs
    else Err bad_type))))))
