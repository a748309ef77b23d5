-- What the trees say of a node.
use Rattle.std.specs.Prelude.{◌≡◌, ℕ, List, [], Option, Some, None, IsSomeAnd, option_map}
use Rattle.gu_base.specs.Numbers.{EntryPart}
use Rattle.gu_base.specs.House.{House}
use Rattle.gu_base.specs.History.{RisesFrom}
use Rattle.gu_base.specs.Nodes.{node_of, split_of, decision_of}
use Rattle.gu_base.specs.Places.{place_of, depth_of, root_of}
use Rattle.gu_base.specs.Rows.{state_of}
use Rattle.gu_base.specs.Standing.{first_refused, standing_on}
use Rattle.gu_base.specs.declared.command.Command.{Command}
use Rattle.gu_base.specs.declared.command.Command.TheVariants.{Reverse}
use Rattle.gu_base.specs.declared.entry.Record.{Record}
use Rattle.gu_base.specs.declared.node.Node.{Node}
use Rattle.gu_tree.specs.Grove.{Grove, IsPlace, place_of as place_kept}
use Rattle.gu_tree.specs.ShownAll.{place_in}
use Rattle.gu_book.specs.Filed.{IsGroveOf}
use Rattle.gu_book.specs.Holdings.{deal_of}
use Rattle.gu_book.specs.declared.found.Found.{Found}
use Rattle.gu_book.specs.declared.found.Named.{Named}
use Rattle.gu_book.specs.declared.found.Sought.{Sought}
use Rattle.gu_book.specs.declared.found.Undone.{Undone}

-- the trees are those of these changes, none of which a house refuses
pub record AreTreesOf (l : List Record) (g : Grove) : Type 0 where
  pub house : House
  pub filed : IsGroveOf l g
  pub replayed : first_refused house [] l ≡ None
  pub rises : RisesFrom 1 l

-- what was found of the node is what the changes say of it
pub record IsFoundAs (l : List Record) (x : Node) (f : Found) : Type 0 where
  pub node : node_of l x.name ≡ Some x
  pub lots : f.head.lots ≡ x.lots
  pub place : place_of l x.name ≡ Some f.head.place
  pub state : f.head.state ≡ state_of x.kind (decision_of l x.name)
  pub deep : depth_of l x.name ≡ f.depth
  pub rooted : root_of l x.name ≡ Some (record { entry = f.trade; part = 0 })
  pub split : f.split ≡ option_map (λ r. r.number) (split_of l x.name)

-- the node of this name, if the changes make one
abbrev pub IsFoundIn : List Record → EntryPart → Option Found → Type 0
IsFoundIn l n None = node_of l n ≡ None
IsFoundIn l n (Some f) = (x : Node) × (x.name ≡ n) × IsFoundAs l x f

-- the node of this name and what was found of it, if the changes make one
abbrev pub IsNamedBy : List Record → EntryPart → Option Named → Type 0
IsNamedBy l n None = node_of l n ≡ None
IsNamedBy l n (Some m) =
    (node_of l n ≡ Some m.node) × (m.node.name ≡ n) × IsFoundAs l m.node m.found

-- that of the node which a command names, if it names one
abbrev pub IsNamedIn : List Record → Option EntryPart → Option Named → Type 0
IsNamedIn l None o = o ≡ None
IsNamedIn l (Some n) o = IsNamedBy l n o

-- the path leads to the node that was found, in whatever trees these changes have
abbrev pub LiesThere : List Record → Option Named → List ℕ → Type 0
LiesThere l None p = Unit {0}
LiesThere l (Some m) p = (g : Grove) → IsGroveOf l g → IsPlace g m.node.name m.found.trade p

-- the node of this name was found, and these trees have it where the path leads
abbrev pub IsFoundThere : Grove → Option EntryPart → Option Named → List ℕ → Type 0
IsFoundThere g None o p = Unit {0}
IsFoundThere g (Some n) None p = ⊥
IsFoundThere g (Some n) (Some m) p = IsPlace g n m.found.trade p

-- of the live change of this number: what was found of the node that it made or named, to which the
-- path leads in whatever trees these changes have, and what is traded there
pub record IsUndoneAs (l : List Record) (k : ℕ) (u : Undone) (p : List ℕ) : Type 0 where
  pub name : EntryPart
  pub place : place_in l k ≡ Some name
  pub found : IsFoundIn l name (Some u.found)
  pub there : (g : Grove) → IsGroveOf l g → IsPlace g name u.found.trade p
  pub deal : u.deal ≡ deal_of l u.found.trade

-- if there is one
abbrev pub IsUndoneBy : List Record → ℕ → Option Undone → List ℕ → Type 0
IsUndoneBy l k None p = place_in l k ≡ None
IsUndoneBy l k (Some u) p = IsUndoneAs l k u p

-- of the change that a Reverse names
abbrev pub IsUndoneIn : List Record → Command → Option Undone → List ℕ → Type 0
IsUndoneIn l (Reverse k) o p = IsUndoneBy l k o p
IsUndoneIn l c o p = o ≡ None

-- the first change that stands on the one which a Reverse names
abbrev pub IsStandingIn : House → List Record → Command → Option ℕ → Type 0
IsStandingIn t l (Reverse k) o = o ≡ standing_on t l k
IsStandingIn t l c o = o ≡ None

-- these trees have the node of the change of this number where the path leads
abbrev pub IsUndoneThere : Grove → ℕ → Undone → List ℕ → Type 0
IsUndoneThere g k u p = IsSomeAnd (place_kept g k) (λ n. IsPlace g n u.found.trade p)

-- nothing was looked up yet
pub record IsNothing (s : Sought) : Type 0 where
  pub named : s.named ≡ None
  pub undo : s.undo ≡ None
  pub undone : s.undone ≡ None
  pub standing : s.standing ≡ None
  pub nodes : s.nodes ≡ 0
