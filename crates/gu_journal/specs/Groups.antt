-- A group as it is written.
use Rattle.std.specs.Prelude.{◌≡◌, ◌<◌, ◌≤◌, ℕ, ◌+◌, true, nat_lt, List, [], ◌∷◌, ◌++◌, length}
use Rattle.std.specs.Prelude.{IsTrue}
use Rattle.std.specs.List.{AllByRecursion, list_all}
use Rattle.gu_base.specs.Names.{is_firm_text}
use Rattle.gu_base.specs.Runs.{call_of}
use Rattle.gu_base.specs.declared.entry.Entry.{Entry}
use Rattle.gu_codec.specs.Messages.{Message}
use Rattle.gu_codec.specs.Writing.{IsText, message_text, stream_text}
use Rattle.gu_message.specs.Timestamp.{is_timestamp}
use Rattle.gu_store.specs.Zeros.{HasNoZero}
use Rattle.sha2.specs.Hashers.{Holds512}
use Rattle.sha2.specs.declared.Sha512.{Sha512}
use Rattle.gu_journal.specs.Entries.{message_of, IsLawfulCall}
use Rattle.gu_journal.specs.Session.{head_of, seal_of}

-- the messages of entries at a moment, of which the first has this number
abbrev pub entry_messages : List ℕ → List ℕ → ℕ → List Entry → List Message
entry_messages house moment n [] = []
entry_messages house moment n (e ∷ es) =
    message_of house moment n (call_of e) ∷ entry_messages house moment (n + 1) es

-- their frames
abbrev pub entry_frames : List ℕ → List ℕ → ℕ → List Entry → List ℕ
entry_frames house moment n es = stream_text (entry_messages house moment n es)

-- the frames of a group that follows these bytes: those of its entries, and its seal
abbrev pub group_frames : List ℕ → List ℕ → ℕ → List Entry → List ℕ → List ℕ
group_frames house moment n es bytes =
    let entries = entry_frames house moment n es in
    entries ++ message_text (seal_of house moment (n + length es) (bytes ++ entries) n)

-- the frame of the head
abbrev pub head_frame : List ℕ → List ℕ → ℕ → List ℕ → List ℕ
head_frame house moment n pin = message_text (head_of house moment n pin)

-- a message can say the entry's call
abbrev pub IsSayableEntry : Entry → Type 0
IsSayableEntry e = IsLawfulCall (call_of e)

-- a moment that may stand in a message
pub record IsMoment (moment : List ℕ) : Type 0 where
  pub text : IsText moment
  pub timestamp : is_timestamp moment ≡ true
  pub clear : list_all (nat_lt 0) moment ≡ true

-- The text is the group of these entries, of which the first has this number, as it follows the
-- bytes that the old hasher holds; and the new one holds its frames too.
pub record IsGroupOf (house moment : List ℕ) (n : ℕ) (es : List Entry) (old new : Sha512)
    (text : List ℕ) : Type 0 where
  pub some : 0 < length text
  pub no_zero : HasNoZero text
  pub named : IsTrue (is_firm_text house)
  pub sayable : AllByRecursion IsSayableEntry es
  pub few : n + length es ≤ 1000001
  pub group : (bytes : List ℕ) → Holds512 old bytes
      → text ≡ group_frames house moment n es bytes
  pub hashed : (bytes : List ℕ) → Holds512 old bytes
      → Holds512 new (bytes ++ group_frames house moment n es bytes)
