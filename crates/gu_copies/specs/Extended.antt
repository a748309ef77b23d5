-- What a journal that was written anew under a larger house has.
use Rattle.std.specs.Prelude.{ℕ, List, Option, IfSome, ◌≡◌}
use Rattle.gu_base.specs.House.{House}
use Rattle.gu_roll.specs.Extended.{IsExtended}

-- these bytes are a journal under the second house of the history that a file says under the first
-- one, whose bytes are these where they are known
abbrev pub IsExtension : House → House → List ℕ → List ℕ → Option (List ℕ) → List ℕ → Type 0
IsExtension t u pin new_pin known new =
    (file : List ℕ) × IfSome known (λ bytes. file ≡ bytes) × IsExtended t u pin new_pin file new

-- such a journal was written whole
abbrev pub IsWrittenAnew : House → House → List ℕ → List ℕ → Option (List ℕ)
    → (List ℕ → Type 0) → Type 0
IsWrittenAnew t u pin new_pin known is_copied =
    (new : List ℕ) × IsExtension t u pin new_pin known new × is_copied new
