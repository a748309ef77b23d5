-- Why a file is told to be damaged, or another's: what stands in it behind the bytes that were
-- taken from its front.
use Rattle.std.specs.Prelude.{◌≡◌, ◌≢◌, ◌⊎◌, ◌<◌, ◌≤◌, ◌+◌, ℕ, false, List, [], ◌++◌, length, drop}
use Rattle.std.specs.Prelude.{codes, decimal, Some, None, Ok}
use Rattle.gu_base.specs.House.{House}
use Rattle.gu_base.specs.declared.entry.Entry.{Entry}
use Rattle.gu_codec.specs.Grammar.{IsFront, IsBrokenAt}
use Rattle.gu_codec.specs.Messages.{Message, Begins}
use Rattle.gu_codec.specs.Tags as tag
use Rattle.gu_message.specs.Finding.{value_of}
use Rattle.gu_message.specs.Meaning.{meaning_of}
use Rattle.gu_message.specs.declared.inbound.Inbound.TheVariants as inbound
use Rattle.hex.specs.Hex.{IsBytes, encode_lower}
use Rattle.gu_store.specs.Zeros.{counted}
use Rattle.gu_journal.specs.Counting.{BeginsBy}
use Rattle.gu_journal.specs.Journal.{IsNumbered}
use Rattle.gu_journal.specs.Session.{default_cstm_appl_ver_id, form, digest_text}
use Rattle.gu_journal.specs.Session.{longest_beginning}
use Rattle.gu_journal.specs.Taking.{IsPinned, SaysNext, IsTaken, IsSealedAt}
use Rattle.gu_journal.specs.declared.damage.Cause.{Cause}
use Rattle.gu_journal.specs.declared.damage.Cause.TheVariants as cause
use Rattle.gu_journal.specs.declared.damage.RecoverError.{RecoverError}
use Rattle.gu_journal.specs.declared.damage.RecoverError.TheVariants as error
use Rattle.gu_journal.specs.declared.replay.Stand.{Stand}
use Rattle.gu_journal.specs.declared.replay.Stand.TheVariants.{Fresh, Sealed, Unsealed}

-- ---- what stands at the front of the bytes that are left

-- a frame, which has this message
abbrev pub HasMessage : List ℕ → Message → Type 0
HasMessage rest m = (len : ℕ) × Begins rest (record { fields = Some m; len = len })

-- a garbled frame: its checksum is wrong, or its body is no list of fields
abbrev pub HasGarbled : List ℕ → Type 0
HasGarbled rest = (len : ℕ) × Begins rest (record { fields = None; len = len })

-- no frame: there is a first byte that none admits
abbrev pub HasNoFrame : List ℕ → Type 0
HasNoFrame rest = (at : ℕ) × IsBrokenAt rest at

-- a seal of another group than the one whose first entry has this number; where there is no head
-- yet, any seal
abbrev pub IsLaterSeal : Stand → ℕ → Message → Type 0
IsLaterSeal Fresh first m = value_of tag.msg_type m ≡ Some (codes "0")
IsLaterSeal _ first m =
    (value_of tag.msg_type m ≡ Some (codes "0")) × (value_of tag.text m ≢ Some (decimal first))

-- such a seal stands somewhere in the bytes
abbrev pub HasLaterSeal : Stand → ℕ → List ℕ → Type 0
HasLaterSeal stand first bytes =
    (front later : List ℕ) × (m : Message) × (bytes ≡ front ++ later) × HasMessage later m
    × IsLaterSeal stand first m

-- the entries of the group that is on its way begin with this number
abbrev pub IsFirst : House → List ℕ → List ℕ → Stand → List Entry → ℕ → Type 0
IsFirst t pin taken stand h first = (at : ℕ) × IsSealedAt t pin taken stand h at first

-- Frames were taken from the front of the file, and say these entries, the last of them maybe of a
-- group without its seal. Behind them stands no seal of another group than that one.
pub record HasNoLater (t : House) (pin file : List ℕ) (h : List Entry) : Type 0 where
  pub taken : List ℕ
  pub stand : Stand
  pub all : List Entry
  pub first : ℕ
  pub stands : IsTaken t pin taken stand all
  pub is_first : IsFirst t pin taken stand all first
  pub begins : BeginsBy all h
  pub there : (rest : List ℕ) × (counted file ≡ taken ++ rest)
  pub none : HasLaterSeal stand first (drop (length taken) file) → ⊥

-- ---- why a message isn't taken

-- it tells no form
abbrev pub LacksForm : Message → Type 0
LacksForm m = value_of default_cstm_appl_ver_id m ≡ None

-- it tells another form
abbrev pub HasOtherForm : Message → Type 0
HasOtherForm m =
    (other : List ℕ) × (value_of default_cstm_appl_ver_id m ≡ Some other) × (other ≢ form)

-- it has the form, and no digits of a digest, neither of this one nor of another
pub record LacksDigest (pin : List ℕ) (m : Message) : Type 0 where
  pub version : value_of default_cstm_appl_ver_id m ≡ Some form
  pub this : value_of tag.text m ≢ Some (encode_lower pin)
  pub others : (other : List ℕ) → IsBytes other → length other ≡ 32
      → value_of tag.text m ≢ Some (encode_lower other)

-- it has the form, the digest and the number, and is no Logon as a head is
pub record IsNoLogon (t : House) (pin : List ℕ) (h : List Entry) (m : Message) : Type 0 where
  pub pinned : IsPinned pin m
  pub number : IsNumbered (length h + 1) m
  pub meaning : meaning_of t.house m ≢ Ok (inbound.Logon 0 false)

-- the first message is no head
abbrev pub IsNoHead : House → List ℕ → Stand → List Entry → Message → Type 0
IsNoHead t pin stand h m =
    (stand ≡ Fresh) × (LacksForm m ⊎ (LacksDigest pin m ⊎ IsNoLogon t pin h m))

-- it has another number than the next entry; as the first message it has form and digest
abbrev pub IsMisnumbered : List ℕ → Stand → List Entry → Message → Type 0
IsMisnumbered pin stand h m =
    (stand ≡ Fresh → IsPinned pin m) × (IsNumbered (length h + 1) m → ⊥)

-- behind the head it has the number, is no Heartbeat, and says no entry that comes next
pub record IsNoEntry (t : House) (stand : Stand) (h : List Entry) (m : Message) : Type 0 where
  pub behind : stand ≢ Fresh
  pub number : IsNumbered (length h + 1) m
  pub meaning : meaning_of t.house m ≢ Ok inbound.Heartbeat
  pub none : (new : List Entry) → SaysNext t h new m → ⊥

-- behind the head it has the number, and is a Heartbeat that hasn't the digest of what was taken
pub record IsOtherSeal (t : House) (taken : List ℕ) (stand : Stand) (h : List Entry) (m : Message)
    : Type 0 where
  pub behind : stand ≢ Fresh
  pub number : IsNumbered (length h + 1) m
  pub meaning : meaning_of t.house m ≡ Ok inbound.Heartbeat
  pub digest : value_of tag.test_req_id m ≢ Some (digest_text taken)

-- it has the form and the digest of another house file, and not of this one
pub record IsOfOther (pin : List ℕ) (m : Message) (this other : List ℕ) : Type 0 where
  pub named : this ≡ pin
  pub pinned : IsPinned other m
  pub apart : IsPinned pin m → ⊥

-- ---- the causes

-- Why damage is told of what is left up to the first zero, where bytes were taken that stand so and
-- say this history, and of what stands behind from that zero on.
abbrev pub HasCause : House → List ℕ → List ℕ → Stand → List Entry → List ℕ → List ℕ → Cause
    → Type 0
HasCause t pin taken stand h rest behind cause.Garbled = HasGarbled rest
HasCause t pin taken stand h rest behind cause.NoFrame = HasNoFrame rest
HasCause t pin taken stand h rest behind cause.Cut = IsFront rest × (behind ≡ [])
HasCause t pin taken stand h rest behind cause.NoHead =
    (m : Message) × HasMessage rest m × IsNoHead t pin stand h m
HasCause t pin taken stand h rest behind cause.OtherNumber =
    (m : Message) × HasMessage rest m × IsMisnumbered pin stand h m
HasCause t pin taken stand h rest behind cause.NoEntry =
    (m : Message) × HasMessage rest m × IsNoEntry t stand h m
HasCause t pin taken stand h rest behind cause.OtherDigest =
    (m : Message) × HasMessage rest m × IsOtherSeal t taken stand h m
HasCause t pin taken stand h rest behind cause.LaterGroup =
    IsFront rest × (0 < length behind)
    × (stand ≡ Fresh → length rest + length behind ≤ longest_beginning)
    × ((first : ℕ) × IsFirst t pin taken stand h first × HasLaterSeal stand first (rest ++ behind))
HasCause t pin taken stand h rest behind cause.NoBeginning =
    IsFront rest × (0 < length behind)
    × (stand ≡ Fresh) × (longest_beginning < length rest + length behind)

-- the same of whatever is told of a file
abbrev pub IsReason : House → List ℕ → List ℕ → Stand → List Entry → List ℕ → List ℕ
    → RecoverError → Type 0
IsReason t pin taken stand h rest behind error.Memory = Unit {0}
IsReason t pin taken stand h rest behind error.Moment = Unit {0}
IsReason t pin taken stand h rest behind error.Full = Unit {0}
IsReason t pin taken stand h rest behind (error.Disk e) = Unit {0}
IsReason t pin taken stand h rest behind (error.OtherHouse this other) =
    (m : Message) × HasMessage rest m × (stand ≡ Fresh) × IsOfOther pin m this.bytes other.bytes
IsReason t pin taken stand h rest behind error.OtherForm =
    (m : Message) × HasMessage rest m × (stand ≡ Fresh) × HasOtherForm m
IsReason t pin taken stand h rest behind (error.Damaged d) =
    HasCause t pin taken stand h rest behind d.cause

-- ---- while a message is looked at, and what stands behind what counts

-- what is told of it is why it isn't taken
abbrev pub IsUntaken : House → List ℕ → List ℕ → Stand → List Entry → Message → Cause → Type 0
IsUntaken t pin taken stand h m cause.NoHead = IsNoHead t pin stand h m
IsUntaken t pin taken stand h m cause.OtherNumber = IsMisnumbered pin stand h m
IsUntaken t pin taken stand h m cause.NoEntry = IsNoEntry t stand h m
IsUntaken t pin taken stand h m cause.OtherDigest = IsOtherSeal t taken stand h m
IsUntaken t pin taken stand h m _ = ⊥

-- the same of whatever is told of it
abbrev pub IsRefused : House → List ℕ → List ℕ → Stand → List Entry → Message → RecoverError
    → Type 0
IsRefused t pin taken stand h m error.Memory = Unit {0}
IsRefused t pin taken stand h m error.Moment = Unit {0}
IsRefused t pin taken stand h m error.Full = Unit {0}
IsRefused t pin taken stand h m (error.Disk e) = Unit {0}
IsRefused t pin taken stand h m (error.OtherHouse this other) =
    (stand ≡ Fresh) × IsOfOther pin m this.bytes other.bytes
IsRefused t pin taken stand h m error.OtherForm = (stand ≡ Fresh) × HasOtherForm m
IsRefused t pin taken stand h m (error.Damaged d) = IsUntaken t pin taken stand h m d.cause

-- what is told of a first message whose form or digest isn't this one
abbrev pub IsUnpinned : List ℕ → Message → RecoverError → Type 0
IsUnpinned pin m error.Memory = Unit {0}
IsUnpinned pin m error.Moment = Unit {0}
IsUnpinned pin m error.Full = Unit {0}
IsUnpinned pin m (error.Disk e) = Unit {0}
IsUnpinned pin m (error.OtherHouse this other) = IsOfOther pin m this.bytes other.bytes
IsUnpinned pin m error.OtherForm = HasOtherForm m
IsUnpinned pin m (error.Damaged d) = (d.cause ≡ cause.NoHead) × (LacksForm m ⊎ LacksDigest pin m)

-- damage alone is told of a file, for this cause, and then this holds
abbrev pub Blames : Cause → Type 0 → RecoverError → Type 0
Blames c holds error.Memory = Unit {0}
Blames c holds error.Moment = Unit {0}
Blames c holds error.Full = Unit {0}
Blames c holds (error.Disk e) = Unit {0}
Blames c holds (error.OtherHouse this other) = ⊥
Blames c holds error.OtherForm = ⊥
Blames c holds (error.Damaged d) = (d.cause ≡ c) × holds

-- what a message lacks that means nothing
abbrev pub lack_of : Stand → Cause
lack_of Fresh = cause.NoHead
lack_of Sealed = cause.NoEntry
lack_of Unsealed = cause.NoEntry

-- what is told of a file of so many bytes, of which no more count from this place on, where these
-- bytes weren't taken
abbrev pub IsBadRest : Stand → ℕ → ℕ → ℕ → List ℕ → RecoverError → Type 0
IsBadRest stand first from size left error.Memory = Unit {0}
IsBadRest stand first from size left error.Moment = Unit {0}
IsBadRest stand first from size left error.Full = Unit {0}
IsBadRest stand first from size left (error.Disk e) = Unit {0}
IsBadRest stand first from size left (error.OtherHouse this other) = ⊥
IsBadRest stand first from size left error.OtherForm = ⊥
IsBadRest stand first from size left (error.Damaged d) =
    ((d.cause ≡ cause.Cut) × (size ≤ from))
    ⊎ (((d.cause ≡ cause.NoBeginning) × (from < size) × (stand ≡ Fresh)
    × (longest_beginning < size))
    ⊎ ((d.cause ≡ cause.LaterGroup) × (from < size)
    × (stand ≡ Fresh → size ≤ longest_beginning) × HasLaterSeal stand first left))
