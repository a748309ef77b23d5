-- What is held of a file that is read in pieces, and what reading does to its disk.
use Rattle.std.specs.Prelude.{◌≡◌, ◌⊎◌, ◌<◌, ◌≤◌, ◌+◌, ℕ, Bool, IsTrue, List, ◌++◌, length, drop}
use Rattle.std.specs.Prelude.{get_or, vec_len, eqb}
use Rattle.std.specs.List.{position_or_len}
use Rattle.sqlite_disk.specs.Disk.{Holds, Only}
use Rattle.gu_store.specs.Zeros.{HasNoZero}
use Rattle.gu_journal.specs.declared.window.Window.TheInside.{Inside}

-- the bytes of a file from a place on that were read and not passed
pub record Held : Type 0 where
  pub at : ℕ
  pub bytes : List ℕ

-- nothing was read
abbrev pub at_front : List ℕ → Held
at_front none = record { at = 0; bytes = none }

-- what contracts see of a window: the bytes that were passed are gone
abbrev pub held_of : Inside → Held
held_of w = record { at = w.at; bytes = drop w.taken w.buffer.items }

-- no more were passed than were read
pub record IsKept (w : Inside) : Type 0 where
  pub taken : w.taken ≤ vec_len w.buffer

-- where what is held ends
abbrev pub end_of : Held → ℕ
end_of w = w.at + length w.bytes

-- how many bytes are passed to the next frame: the first, and all up to the next `8`
abbrev pub strange_len : List ℕ → ℕ
strange_len bytes = 1 + position_or_len (λ b. eqb b 56) (drop 1 bytes)

-- a zero stands at this place of the file
abbrev pub IsZeroAt : List ℕ → ℕ → Type 0
IsZeroAt file n = (n < length file) × (get_or file n 0 ≡ 0)

-- A piece was read behind what is held, of a file of this length. It stands there in the file,
-- where the disk has given no wrong answer.
pub record Adds (is_clean : Bool) (file : List ℕ) (len : ℕ) (old new : Held) : Type 0 where
  pub piece : List ℕ
  pub some : 0 < length piece
  pub within : end_of old + length piece ≤ len
  pub added : new ≡ record old { bytes = old.bytes ++ piece }
  pub there : IsTrue is_clean → Holds file (end_of old) piece

-- The same up to the first zero of the piece, from which on nothing counts: of so many bytes that
-- may count now fewer do.
pub record Gains (is_clean : Bool) (file : List ℕ) (size less : ℕ) (old new : Held) : Type 0 where
  pub piece : List ℕ
  pub added : new ≡ record old { bytes = old.bytes ++ piece }
  pub within : end_of old + length piece ≤ less
  pub fewer : less ≤ size
  pub closer : (0 < length piece) ⊎ (less < size)
  pub no_zero : HasNoZero piece
  pub there : IsTrue is_clean → Holds file (end_of old) piece
  pub bound : IsTrue is_clean → (less ≡ size) ⊎ IsZeroAt file less

-- a disk from which bytes were read at most: it has the same bytes, and a crash leaves no more
pub record OnlyReads {D : Type 0} (seen : D → List ℕ) (may_leave : D → List ℕ → Type 0)
    (is_usable is_clean : D → Bool) (old new : D) : Type 0 where
  pub same : seen new ≡ seen old
  pub usable : IsTrue (is_usable new)
  pub clean : IsTrue (is_clean new) → IsTrue (is_clean old)
  pub crash : (c : List ℕ) → may_leave new c → may_leave old c

-- a disk to which nothing was written: it has the same bytes, and a crash leaves these alone
pub record IsUntouched {D : Type 0} (seen : D → List ℕ) (may_leave : D → List ℕ → Type 0)
    (old new : D) : Type 0 where
  pub same : seen new ≡ seen old
  pub durable : Only (seen old) (may_leave new)
