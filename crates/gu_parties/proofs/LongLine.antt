-- A line of more words than any form of line has.
use Rattle.std.proofs.Common.{◌≡◌, ℕ, Bool, true, false, List, [], ◌∷◌, refl, Err, Some}
use Rattle.std.specs.Prelude.{eqb}
use Rattle.gu_base.specs.House.{House}
use Rattle.gu_parties.specs.Words.{words}
use Rattle.gu_parties.specs.Causes.{name_cause}
use Rattle.gu_parties.specs.Steps.{add_line}
use Rattle.gu_parties.specs.declared.fault.Cause.TheVariants.{BadLine}

-- a line has a first word
pub first_and_rest : (bs : List ℕ) → (w : List ℕ) × ((ws : List (List ℕ)) × (words bs ≡ w ∷ ws))
first_and_rest [] = ([], ([], refl))
first_and_rest (b ∷ bs) = by (eqb b 32) refl (first_and_rest bs)
  where
    by : (t : Bool) → eqb b 32 ≡ t → (w : List ℕ) × ((ws : List (List ℕ)) × (words bs ≡ w ∷ ws))
        → (w : List ℕ) × ((ws : List (List ℕ)) × (words (b ∷ bs) ≡ w ∷ ws))
    by true t p = ([], (words bs, rw t refl))
    by false t p = (b ∷ p.0, (p.1.0, rw (t, p.1.1) refl))

-- more than five words
pub long_line : (t : House) (v w x y z : List ℕ) (bs : List ℕ) → add_line t (v ∷ w ∷ x ∷ y ∷ z ∷ words bs) ≡ Err BadLine
long_line t v w x y z bs = let p = first_and_rest bs in rw p.1.1 refl

pub ruleset long_lines = (long_line)

-- more than one word behind HOUSE
pub long_name : (x : List ℕ) (bs : List ℕ) → name_cause (x ∷ words bs) ≡ Some BadLine
long_name x bs = let p = first_and_rest bs in rw p.1.1 refl

pub ruleset long_names = (long_name)
