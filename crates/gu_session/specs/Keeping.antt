-- The application messages that are kept: what each of them is, and how they lie in memory.
use Rattle.std.specs.Prelude.{◌≡◌, ℕ, ◌+◌, List, [], ◌∷◌, ◌++◌, length, take, drop}
use Rattle.gu_session.specs.declared.kept.AppType.{AppType}
use Rattle.gu_session.specs.declared.kept.KeptHeader.{KeptHeader}

-- an application message that was sent: its type; MsgSeqNum (34); SendingTime (52) when it was sent
-- first; the text of its fields behind the header
pub record Kept : Type 0 where
  pub kind : AppType
  pub number : ℕ
  pub sent : List ℕ
  pub body : List ℕ

-- how many bytes the bodies of messages have together
abbrev pub bytes_of : List Kept → ℕ
bytes_of [] = 0
bytes_of (m ∷ ms) = length m.body + bytes_of ms

-- the message of this header and body
abbrev pub kept_with : KeptHeader → List ℕ → Kept
kept_with e body = record { kind = e.kind; number = e.number; sent = e.sent; body = body }

-- the messages of headers whose bodies stand one behind the other
abbrev pub messages : List KeptHeader → List ℕ → List Kept
messages [] bodies = []
messages (e ∷ es) bodies = kept_with e (take e.size bodies) ∷ messages es (drop e.size bodies)

-- how long the bodies of headers are together
abbrev pub total : List KeptHeader → ℕ
total [] = 0
total (e ∷ es) = e.size + total es

-- the body of this message was appended, and this is its header
pub record IsBody (e : KeptHeader) (m : Kept) (before after : List ℕ) : Type 0 where
  pub appended : after ≡ before ++ m.body
  pub size : e.size ≡ length m.body
  pub value : kept_with e m.body ≡ m
