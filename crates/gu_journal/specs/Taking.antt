-- How the messages of a journal are taken, one after the other.
use Rattle.std.specs.Prelude.{◌≡◌, ◌≢◌, ℕ, ◌+◌, ◌<◌, List, [], ◌∷◌, ◌++◌, length, Some}
use Rattle.gu_base.specs.House.{House}
use Rattle.gu_base.specs.Answers.{Call, answer_to}
use Rattle.gu_base.specs.Runs.{opening_history}
use Rattle.gu_base.specs.declared.entry.Entry.{Entry}
use Rattle.gu_base.specs.declared.entry.Answer.TheVariants.{Accepted}
use Rattle.gu_base.specs.declared.state.State.{State}
use Rattle.gu_codec.specs.Messages.{Message}
use Rattle.gu_codec.specs.Tags as tag
use Rattle.gu_message.specs.Finding.{value_of}
use Rattle.gu_message.specs.declared.inbound.Inbound.{Inbound}
use Rattle.gu_message.specs.declared.inbound.Inbound.TheVariants as inbound
use Rattle.hex.specs.Hex.{encode_lower}
use Rattle.gu_journal.specs.Journal.{IsHead, IsNext, IsSeal, Says, IsJournal}
use Rattle.gu_journal.specs.Session.{default_cstm_appl_ver_id, form}
use Rattle.gu_journal.specs.declared.damage.Cause.TheVariants.{LaterGroup}
use Rattle.gu_journal.specs.declared.damage.RecoverError.{RecoverError}
use Rattle.gu_journal.specs.declared.damage.RecoverError.TheVariants as error
use Rattle.gu_journal.specs.declared.replay.Stand.{Stand}
use Rattle.gu_journal.specs.declared.replay.Stand.TheVariants.{Fresh, Sealed, Unsealed}

-- The file is refused for what stands at its front. A later group stands behind it.
abbrev pub IsFault : RecoverError → Type 0
IsFault error.Memory = ⊥
IsFault error.Moment = ⊥
IsFault error.Full = ⊥
IsFault (error.Disk e) = ⊥
IsFault (error.OtherHouse file journal) = Unit {0}
IsFault error.OtherForm = Unit {0}
IsFault (error.Damaged d) = d.cause ≢ LaterGroup

-- the file is refused for what it says
abbrev pub IsTold : RecoverError → Type 0
IsTold error.Memory = ⊥
IsTold error.Moment = ⊥
IsTold error.Full = ⊥
IsTold (error.Disk e) = ⊥
IsTold (error.OtherHouse file journal) = Unit {0}
IsTold error.OtherForm = Unit {0}
IsTold (error.Damaged d) = Unit {0}

-- the message has this form, and the digest of this house file
pub record IsPinned (pin : List ℕ) (m : Message) : Type 0 where
  pub version : value_of default_cstm_appl_ver_id m ≡ Some form
  pub digest : value_of tag.text m ≡ Some (encode_lower pin)

-- the call is accepted as the next entry of the history, which with it is the new one
abbrev pub AddsCall : House → List Entry → List Entry → Call → Type 0
AddsCall t h new c = (status : State) × (answer_to t h c ≡ Accepted (length h + 1) status)
    × (new ≡ h ++ record { firm = c.firm; id = c.id; command = c.command; status = status } ∷ [])

-- what means a call adds it
abbrev pub AddsNext : House → List Entry → List Entry → Inbound → Type 0
AddsNext t h new (inbound.Call firm trade id command) =
    AddsCall t h new (record { firm = firm; id = id; command = command })
AddsNext t h new _ = ⊥

-- the message says the next entry of the history, which with it is the new one
abbrev pub SaysNext : House → List Entry → List Entry → Message → Type 0
SaysNext t h new m = (e : Entry) × IsNext t h e m × (new ≡ h ++ e ∷ [])

-- Behind these bytes, which say this history, a message is taken: the head at the front, and else
-- an entry or a seal.
abbrev pub Takes : House → List ℕ → List ℕ → Stand → List Entry → Message → Stand → List Entry
    → Type 0
Takes t pin taken Fresh h m Fresh new = ⊥
Takes t pin taken Fresh h m Sealed new = (h ≡ opening_history t → IsHead t pin m) × (new ≡ h)
Takes t pin taken Fresh h m Unsealed new = ⊥
Takes t pin taken Sealed h m Fresh new = ⊥
Takes t pin taken Sealed h m Sealed new = IsSeal t taken h m × (new ≡ h)
Takes t pin taken Sealed h m Unsealed new = SaysNext t h new m
Takes t pin taken Unsealed h m Fresh new = ⊥
Takes t pin taken Unsealed h m Sealed new = IsSeal t taken h m × (new ≡ h)
Takes t pin taken Unsealed h m Unsealed new = SaysNext t h new m

-- a journal, and behind it what says further entries, one at least, up to this history
pub record IsOpenAt (t : House) (pin taken : List ℕ) (new : List Entry) : Type 0 where
  pub bytes : List ℕ
  pub entries : List ℕ
  pub h : List Entry
  pub journal : IsJournal t pin bytes h
  pub says : Says t h entries new
  pub some : 0 < length entries
  pub parts : taken ≡ bytes ++ entries

-- the bytes that were taken: none, a journal, or a journal with a group that isn't sealed yet
abbrev pub IsTaken : House → List ℕ → List ℕ → Stand → List Entry → Type 0
IsTaken t pin taken Fresh h = (taken ≡ []) × (h ≡ opening_history t)
IsTaken t pin taken Sealed h = IsJournal t pin taken h
IsTaken t pin taken Unsealed h = IsOpenAt t pin taken h

-- the head and the groups that are sealed have so many bytes, and the first entry behind them this
-- number
abbrev pub IsSealedAt : House → List ℕ → List ℕ → Stand → List Entry → ℕ → ℕ → Type 0
IsSealedAt t pin taken Fresh h at first = at ≡ 0
IsSealedAt t pin taken Sealed h at first = (at ≡ length taken) × (first ≡ length h + 1)
IsSealedAt t pin taken Unsealed h at first =
    (o : IsOpenAt t pin taken h) × (at ≡ length o.bytes) × (first ≡ length o.h + 1)
