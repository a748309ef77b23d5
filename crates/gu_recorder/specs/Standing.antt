-- What may stand in the place of a journal that is opened.
use Rattle.std.specs.Prelude.{◌≡◌, ℕ, Option, Some}
use Rattle.gu_recorder.specs.declared.standing.Found.{Found}
use Rattle.gu_recorder.specs.declared.standing.Found.TheVariants.{File}

-- a file there has a byte that counts: its first one, which is no zero
abbrev pub HasByte : Found → Type 0
HasByte found = (first : Option ℕ) → found ≡ File first
    → (b : ℕ) × (first ≡ Some b) × (b ≡ 0 → ⊥)
