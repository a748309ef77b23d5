-- What waits to be sent, and what it was made of.
use Rattle.std.specs.Prelude.{◌≡◌, ◌≤◌, ℕ, List, ◌++◌, map, take, drop, length, Bool, true, false}
use Rattle.std.specs.List.{All}
use Rattle.gu_base.specs.declared.entry.Entry.{Entry}
use Rattle.gu_desk.specs.Begins.{BeginsWith}
use Rattle.gu_recorder.specs.declared.made.MadeByte.{MadeByte}

-- the bytes alone
abbrev pub bytes_of : List MadeByte → List ℕ
bytes_of made = map (λ (m : MadeByte). m.byte) made

-- these bytes, each made of this history
abbrev pub made_of : List ℕ → List Entry → List MadeByte
made_of bytes h = map (λ (b : ℕ). record { byte = b; history = h }) bytes

-- a history begins with each that these bytes were made of
abbrev pub RestOn : List MadeByte → List Entry → Type 0
RestOn made h = All (λ (m : MadeByte). BeginsWith h m.history) made

-- what waits together, and a history that begins with each that it was made of
pub record Together : Type 0 where
  pub made : List MadeByte
  pub seen : List Entry

-- what was sent, what waits to be, and the history that the last of all was made of
pub record Outgoing : Type 0 where
  pub sent : List MadeByte
  pub waits : List MadeByte
  pub rests : List Entry

-- that of the back, or that of the front
abbrev pub last_of : Bool → Together → Together → List Entry
last_of true front back = back.seen
last_of false front back = front.seen

-- bytes that were made of this history wait behind the others
abbrev pub Holds : Outgoing → Outgoing → List ℕ → List Entry → Type 0
Holds before after bytes h =
    (after.sent ≡ before.sent) × (after.waits ≡ before.waits ++ made_of bytes h)
    × (after.rests ≡ h)

-- a front of what waited was sent, each byte once
pub record Sends (before after : Outgoing) : Type 0 where
  pub count : ℕ
  pub within : count ≤ length before.waits
  pub sent : after.sent ≡ before.sent ++ take count before.waits
  pub left : after.waits ≡ drop count before.waits
  pub rests : after.rests ≡ before.rests
