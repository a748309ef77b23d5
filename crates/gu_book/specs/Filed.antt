-- The trees of the live trades, and the places of the live changes in them.
use Rattle.std.specs.Prelude.{◌≡◌, ◌<◌, List, [], ◌∷◌, ◌++◌, Contains, None}
use Rattle.gu_base.specs.House.{House}
use Rattle.gu_base.specs.History.{RisesFrom}
use Rattle.gu_base.specs.Refusals.{refusal_of}
use Rattle.gu_base.specs.Standing.{first_refused, standing_on, without}
use Rattle.gu_base.specs.declared.entry.Record.{Record}
use Rattle.gu_tree.specs.Grove.{Grove, last_place}
use Rattle.gu_tree.specs.ShownAll.{ShowsAll}

-- the trees and places show the list of changes
abbrev pub IsGroveOf : List Record → Grove → Type 0
IsGroveOf l g = ShowsAll l g

-- a change that may follow these, the trees of which are filed, and the places too; no entry so
-- late ever had a place
pub record IsNext (t : House) (l : List Record) (r : Record) (g : Grove) : Type 0 where
  pub filed : IsGroveOf l g
  pub later : last_place g < r.number
  pub replayed : first_refused t [] l ≡ None
  pub lawful : refusal_of t l r.firm r.command ≡ None
  pub rises : RisesFrom 1 (l ++ r ∷ [])

-- the change may follow some list whose trees these are
abbrev pub IsDue : Record → Grove → Type 0
IsDue r g = (t : House) × (l : List Record) × IsNext t l r g

-- whatever list the change may follow, the new trees are those of it and the change
abbrev pub Follows : Record → Grove → Grove → Type 0
Follows r old new = (t : House) (l : List Record) → IsNext t l r old → IsGroveOf (l ++ r ∷ []) new

-- a change of these on which nothing stands; the trees are those of all of them
pub record IsFree (t : House) (l : List Record) (r : Record) (g : Grove) : Type 0 where
  pub filed : IsGroveOf l g
  pub replayed : first_refused t [] l ≡ None
  pub rises : RisesFrom 1 l
  pub among : Contains l r
  pub free : standing_on t l r.number ≡ None

-- the change may go from some list whose trees these are
abbrev pub MayGo : Record → Grove → Type 0
MayGo r g = (t : House) × (l : List Record) × IsFree t l r g

-- whatever list the change may go from, the new trees are those of the others
abbrev pub IsGone : Record → Grove → Grove → Type 0
IsGone r old new =
    (t : House) (l : List Record) → IsFree t l r old → IsGroveOf (without l r.number) new
