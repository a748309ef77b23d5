-- Why entries aren't kept.
use Rattle.std.specs.Prelude.{◌≡◌, ◌⊎◌, ◌<◌, ◌+◌, ◌^◌, ℕ, false, List, ◌∷◌, ◌++◌, length}
use Rattle.sha2.specs.Hashers.{Holds512}
use Rattle.sha2.specs.declared.Sha512.{Sha512}
use Rattle.gu_base.specs.declared.entry.Entry.{Entry}
use Rattle.gu_journal.specs.Entries.{is_sayable}
use Rattle.gu_journal.specs.Groups.{group_frames, IsMoment}
use Rattle.gu_journal.specs.declared.error.JournalError.{JournalError}
use Rattle.gu_journal.specs.declared.error.JournalError.TheVariants as error

-- of entries, of which the first would have the number n, no message can say the one that would
-- have this number
abbrev pub IsUnsaid : ℕ → List Entry → ℕ → Type 0
IsUnsaid n es number =
    (before later : List Entry) × (e : Entry) × (es ≡ before ++ e ∷ later)
    × (number ≡ n + length before) × (is_sayable e.firm e.command ≡ false)

-- behind these bytes, which say this history, in a file of so many, is no room for entries: it
-- would have more than 1,000,000, or the bytes of the file or of the group are more than 2^60
abbrev pub HasNoRoom : List ℕ → List ℕ → List ℕ → ℕ → List Entry → List Entry → Type 0
HasNoRoom house moment bytes size h es =
    (1000000 < length h + length es) ⊎ (2 ^ 60 < size)
    ⊎ (2 ^ 60 < length (group_frames house moment (length h + 1) es bytes))

-- Entries that come at this moment aren't kept behind such bytes, in such a file, for this cause. A
-- failure of the disk is one of its calls that failed. Of memory nothing is said.
abbrev pub IsCause : List ℕ → List ℕ → List ℕ → ℕ → List Entry → List Entry → Type 0
    → JournalError → Type 0
IsCause house moment bytes size h es failed error.Memory = Unit {0}
IsCause house moment bytes size h es failed error.Full = HasNoRoom house moment bytes size h es
IsCause house moment bytes size h es failed (error.Unsayable number) =
    IsUnsaid (length h + 1) es number
IsCause house moment bytes size h es failed error.Moment = IsMoment moment → ⊥
IsCause house moment bytes size h es failed (error.Disk e) = failed

-- While the group is written: the file has so many bytes, the hasher holds what counts, and the
-- first entry has the number n.
abbrev pub IsStopped : List ℕ → List ℕ → ℕ → Sha512 → ℕ → List Entry → JournalError → Type 0
IsStopped house moment size hasher n es error.Memory = Unit {0}
IsStopped house moment size hasher n es error.Full =
    (n ≡ 0) ⊎ (1000001 < n + length es) ⊎ (2 ^ 60 < size)
    ⊎ ((bytes : List ℕ) → Holds512 hasher bytes
    → 2 ^ 60 < length (group_frames house moment n es bytes))
IsStopped house moment size hasher n es (error.Unsayable number) = IsUnsaid n es number
IsStopped house moment size hasher n es error.Moment = IsMoment moment → ⊥
IsStopped house moment size hasher n es (error.Disk e) = ⊥
