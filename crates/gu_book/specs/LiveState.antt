-- What is kept of a list of live changes, and how it follows the list.
use Rattle.std.specs.Prelude.{◌≡◌, ◌+◌, ◌<◌, ◌≤◌, true, ℕ, List, [], ◌∷◌, ◌++◌, length, None}
use Rattle.gu_base.specs.History.{RisesFrom, is_change, numbered_as}
use Rattle.gu_base.specs.House.{House}
use Rattle.gu_base.specs.Limits.{most_entries}
use Rattle.gu_base.specs.Refusals.{refusal_of}
use Rattle.gu_base.specs.Standing.{first_refused, without}
use Rattle.gu_base.specs.declared.entry.Record.{Record}
use Rattle.gu_depend.specs.Terms.{AreTermsOf}
use Rattle.gu_fees.specs.Terms.{last_entry}
use Rattle.gu_tree.specs.Grove.{last_place}
use Rattle.gu_tree.specs.Shown.{named_node}
use Rattle.gu_book.specs.Charging.{AreFeesOf}
use Rattle.gu_book.specs.Filed.{IsGroveOf, IsFree}
use Rattle.gu_book.specs.Found.{IsNamedIn, IsUndoneBy, LiesThere}
use Rattle.gu_book.specs.Holdings.{ArePositionsOf}
use Rattle.gu_book.specs.Limits.{AllWithinLimits}
use Rattle.gu_book.specs.Live.{record_of}
use Rattle.gu_book.specs.declared.live_state.Addition.{Addition}
use Rattle.gu_book.specs.declared.live_state.LiveState.{LiveState}
use Rattle.gu_book.specs.declared.live_state.Removal.{Removal}

-- the trees with their places, the fees, the positions and the terms are those of the list; no
-- place and no entry of a giver and a taker has the next number or a later one
pub record IsStateOf (t : House) (l : List Record) (next : ℕ) (s : LiveState) : Type 0 where
  pub filed : IsGroveOf l s.trees
  pub charged : AreFeesOf t l s.fees
  pub stands : ArePositionsOf l s.positions
  pub dealt : AreTermsOf t l s.terms
  pub placed : last_place s.trees < next
  pub dealt_before : last_entry s.terms < next

-- a list that a book may have as its live changes
pub record IsLiveList (t : House) (l : List Record) : Type 0 where
  pub few : length l ≤ most_entries
  pub replayed : first_refused t [] l ≡ None
  pub within : AllWithinLimits l

-- the change may follow the list of which this is kept
pub record CanFollow (t : House) (l : List Record) (r : Record) (s : LiveState) : Type 0 where
  pub list : IsLiveList t l
  pub state : IsStateOf t l r.number s
  pub lawful : refusal_of t l r.firm r.command ≡ None
  pub rises : RisesFrom 1 (l ++ r ∷ [])

-- the same of a change that is to be added, whose node was found
pub record CanAdd (a : Addition) (s : LiveState) : Type 0 where
  pub follows : CanFollow a.house.now a.changes (record_of a.made.now) s
  pub named : IsNamedIn a.changes (named_node a.made.now.command.now) a.sought.now.named
  pub there : LiesThere a.changes a.sought.now.named a.sought.now.path.items

-- the change was added
abbrev pub IsAdded : Addition → LiveState → Type 0
IsAdded a s =
    IsStateOf a.house.now (a.changes ++ record_of a.made.now ∷ []) (a.made.now.number + 1) s

-- it wasn't
abbrev pub IsStill : Addition → LiveState → Type 0
IsStill a s = IsStateOf a.house.now a.changes a.made.now.number s

-- the change may go from the list of which this is kept
pub record CanGo (t : House) (l : List Record) (r : Record) (s : LiveState) : Type 0 where
  pub list : IsLiveList t l
  pub next : ℕ
  pub state : IsStateOf t l next s
  pub free : IsFree t l r s.trees
  pub change : is_change r.command ≡ true

-- what was kept of the list is kept of another, and no later number came in
abbrev pub Becomes : House → List Record → List Record → LiveState → LiveState → Type 0
Becomes t l k old new = (next : ℕ) → IsStateOf t l next old → IsStateOf t k next new

-- the change that is to be taken out
abbrev pub gone_of : Removal → Record
gone_of m = numbered_as m.number m.entry.now

-- it may go, and was looked up
pub record CanRemove (m : Removal) (s : LiveState) : Type 0 where
  pub goes : CanGo m.house.now m.changes (gone_of m) s
  pub undone : IsUndoneBy m.changes m.number m.sought.now.undone m.sought.now.path.items

-- it was taken out
abbrev pub IsRemoved : Removal → LiveState → LiveState → Type 0
IsRemoved m old new = Becomes m.house.now m.changes (without m.changes m.number) old new

-- it wasn't
abbrev pub IsLeft : Removal → LiveState → LiveState → Type 0
IsLeft m old new = Becomes m.house.now m.changes m.changes old new
