-- The hash of a firm and an id: SipHash-1-3 under a key, whose steps are those of std's hasher.
use Rattle.std.specs.Prelude.{◌≡◌, ℕ, ◌+◌, ◌-◌, ◌*◌, ◌/◌, ◌%◌, ◌^◌, ◌==◌, nat_lt, bit_xor}
use Rattle.std.specs.Prelude.{if◌then◌else◌}
use Rattle.std.specs.Prelude.{List, [], ◌∷◌, ◌++◌, length, take, replicate, fold, slice_index_or}
use Rattle.std.specs.Hash.DefaultHasher as sip
use Rattle.std.specs.declared.hash.DefaultHasher.{DefaultHasher}
use Rattle.gu_base.specs.Limits.{longest_id, longest_name}
use Rattle.gu_ids.specs.declared.hash.HashKey.{HashKey}
use Rattle.gu_ids.specs.declared.hash.IdHash.{IdHash}
use Rattle.gu_ids.specs.declared.hash.Room.{Room}
use Rattle.gu_ids.specs.declared.hash.Sip.{Sip}

-- std's hasher in this state, with these bytes pending, at this count of bytes
abbrev pub hasher_at : Sip → ℕ → ℕ → DefaultHasher
hasher_at s tail count =
    record { v0 = s.v0; v1 = s.v1; v2 = s.v2; v3 = s.v3; tail = tail; length = count }

-- the state that std's hasher is in
abbrev pub state_in : DefaultHasher → Sip
state_in h = record { v0 = h.v0; v1 = h.v1; v2 = h.v2; v3 = h.v3 }

-- nothing taken in
abbrev pub begun : HashKey → Sip
begun key = state_in (sip.with_keys key.low key.high)

-- after a round
abbrev pub turned : Sip → Sip
turned s = state_in (sip.round (hasher_at s 0 0))

-- with one word more
abbrev pub taken : Sip → ℕ → Sip
taken s word = state_in (sip.write_word (hasher_at s 0 0) word)

-- the hash, with a last word of the tail and the count of bytes
abbrev pub finished : Sip → ℕ → ℕ → ℕ
finished s tail count = sip.finish (hasher_at s tail count)

-- the eight bytes from a place on, the lowest first; 0 where they aren't all there
unfoldable pub word_at : List ℕ → ℕ → ℕ
word_at bytes at = if nat_lt (length bytes) (at + 8) then 0 else sip.read_word bytes at

-- the four words that bytes begin with
abbrev pub room_of : List ℕ → Room
room_of bytes =
    record { words = word_at bytes 0 ∷ word_at bytes 8 ∷ word_at bytes 16 ∷ word_at bytes 24 ∷ [] }

-- a text in a room of so many bytes
abbrev pub padded : ℕ → List ℕ → List ℕ
padded room text = text ++ replicate (room - length text) 0

-- with the first bytes of an id taken in, so many: the words that they fill, and the rest
abbrev pub taken_of : Sip → List ℕ → ℕ → Sip
taken_of s id count =
    let words = (room_of (padded longest_id id)).words in
    let rest = slice_index_or words (count / 8) 0 % 2 ^ (8 * (count % 8)) in
    taken (fold taken s (take (count / 8) words)) rest

-- the hash in this state, with a firm's name and the length of an id: a name of at most seven bytes
-- stands in the last word, a longer one fills two before it
abbrev pub hash_with : Sip → List ℕ → ℕ → ℕ
hash_with s name count =
    let first = slice_index_or name 0 0 in
    if first / 2 ^ 56 == 0 then finished s first count
    else finished (taken (taken s first) (slice_index_or name 1 0)) 0 count

-- the hash of a firm and an id under a key: the upper half of what is made of the firm and of all
-- bytes of the id but the last, and the last beside it
unfoldable pub hash_of : HashKey → List ℕ → List ℕ → ℕ
hash_of key firm id =
    let last = length id - 1 in
    let name = (room_of (padded longest_name firm)).words in
    let made = hash_with (taken_of (begun key) id last) name (length id) in
    bit_xor (made / 2 ^ 32) (slice_index_or id last 0)

-- this is the hash of the firm and the id under its key
abbrev pub IsHashOf : IdHash → List ℕ → List ℕ → Type 0
IsHashOf hash firm id = hash.value ≡ hash_of hash.key firm id
