-- The newest of the entries that something holds of.
use Rattle.std.specs.Prelude.{ℕ, zero, suc, Bool, false, ◌&&◌, List, length, map, slice_index_or}
use Rattle.std.specs.Prelude.{Option, Some, None, bytes_eq, if◌then◌else◌}
use Rattle.gu_base.specs.declared.entry.Entry.{Entry}

-- the greatest of the numbers 1 to k with p at its place, which is one less; 0 is none
abbrev pub newest : (ℕ → Bool) → ℕ → ℕ
newest p zero = 0
newest p (suc k) = if p k then suc k else newest p k

-- an entry of this firm and id
abbrev pub is_of : List ℕ → List ℕ → Entry → Bool
is_of firm id e = bytes_eq e.firm firm && bytes_eq e.id id

-- at this place of the history stands an entry of this firm and id
abbrev pub is_at : List Entry → List ℕ → List ℕ → ℕ → Bool
is_at h firm id place = slice_index_or (map (is_of firm id) h) place false

-- a number; 0 is none
abbrev pub unless_zero : ℕ → Option ℕ
unless_zero zero = None
unless_zero (suc n) = Some (suc n)

-- the number of the newest entry of this firm and id
abbrev pub newest_of : List Entry → List ℕ → List ℕ → Option ℕ
newest_of h firm id = unless_zero (newest (is_at h firm id) (length h))
