-- The messages of the session in a journal, which give nothing to a history.
use Rattle.std.specs.Prelude.{ℕ, ◌+◌, ◌^◌, List, [], ◌∷◌, ◌++◌, codes, decimal, None}
use Rattle.gu_codec.specs.Messages.{Message}
use Rattle.gu_codec.specs.Tags as tag
use Rattle.gu_codec.specs.Writing.{header_pairs}
use Rattle.hex.specs.Hex.{encode_lower}
use Rattle.sha2.specs.Sha512.{sha512}

-- DefaultCstmApplVerID (1408), in which the head has the form of the journal
abbrev pub default_cstm_appl_ver_id : ℕ
default_cstm_appl_ver_id = 1408

-- the one form of a journal that is written and read
abbrev pub form : List ℕ
form = codes "allocd-journal-3"

-- The most bytes of a head: 153 beside two names of 16, a number of 7 digits and a moment of 24.
abbrev pub longest_head : ℕ
longest_head = 216

-- The most bytes of a file whose head is on its way: the head, a zero behind it, one that is laid
-- beside, and the 2^20 that are laid at once.
abbrev pub longest_beginning : ℕ
longest_beginning = longest_head + 2 + 2 ^ 20

-- the SHA-512 of some bytes, as 128 hex digits in lower case
abbrev pub digest_text : List ℕ → List ℕ
digest_text bytes = encode_lower (sha512 bytes)

-- the header of a message of this type from the house to itself
abbrev pub own_header : List ℕ → List ℕ → List ℕ → ℕ → Message
own_header kind house moment number = header_pairs (record {
  kind = kind;
  sender = house;
  target = house;
  number = number;
  sent = moment;
  resent = None;
})

-- what the head has behind its header: a Logon's fields, the form, the digest of the house file
abbrev pub head_fields : List ℕ → Message
head_fields pin =
    (tag.encrypt_method, codes "0") ∷ (tag.heart_bt_int, codes "0")
    ∷ (tag.default_appl_ver_id, codes "9") ∷ (default_cstm_appl_ver_id, form)
    ∷ (tag.text, encode_lower pin) ∷ []

-- The head: a Logon (A) of the house to itself at a moment, with the number of the next entry. The
-- digest of the house file pins the house.
abbrev pub head_of : List ℕ → List ℕ → ℕ → List ℕ → Message
head_of house moment number pin =
    own_header (codes "A") house moment number ++ head_fields pin

-- A seal: a Heartbeat (0) of the house to itself at a moment, with the number of the next entry, a
-- digest in TestReqID (112), and in Text (58) the number of the first entry of its group.
abbrev pub seal_with : List ℕ → List ℕ → ℕ → List ℕ → ℕ → Message
seal_with house moment number digest first =
    own_header (codes "0") house moment number
    ++ (tag.test_req_id, encode_lower digest) ∷ (tag.text, decimal first) ∷ []

-- the seal of these bytes
abbrev pub seal_of : List ℕ → List ℕ → ℕ → List ℕ → ℕ → Message
seal_of house moment number bytes first = seal_with house moment number (sha512 bytes) first
