-- Zeros, which stand behind what counts.
use Rattle.std.specs.Prelude.{◌<◌, ℕ, zero, suc, Bool, IsTrue, List, [], ◌∷◌, All, length}
use Rattle.std.specs.Prelude.{replicate}
use Rattle.sqlite_disk.specs.Disk.{Torn, Mixed, Follows}

-- so many zeros
abbrev pub zeros : ℕ → List ℕ
zeros n = replicate n 0

-- none of these bytes is zero
abbrev pub HasNoZero : List ℕ → Type 0
HasNoZero bytes = All (λ b. 0 < b) bytes

-- the bytes of a file up to its first zero: those that count
abbrev pub counted : List ℕ → List ℕ
counted [] = []
counted (zero ∷ file) = []
counted (suc b ∷ file) = suc b ∷ counted file

-- one of the bytes of a file is zero
abbrev pub HasZero : List ℕ → Type 0
HasZero file = length (counted file) < length file

-- A disk has been told to write so many zeros at a place, and done it whole, in part or not at all.
pub record IsZeroing {D : Type 0} (seen : D → List ℕ) (may_leave : D → List ℕ → Type 0)
    (is_mixing : D → Bool) (at n : ℕ) (old new : D) : Type 0 where
  pub others : Torn at n (seen old) (seen new)
  pub crash : Follows (Torn at n) (may_leave old) (may_leave new)
  pub mixed : ((d : D) → IsTrue (is_mixing d))
      → Follows (Mixed at (zeros n)) (may_leave old) (may_leave new)
