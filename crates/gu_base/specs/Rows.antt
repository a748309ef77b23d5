-- The rows of a trade's tree.
use Rattle.std.specs.Prelude.{ℕ, zero, suc, ◌+◌, List, [], ◌∷◌, length, flat_map, Option, Some}
use Rattle.std.specs.Prelude.{None, option_map}
use Rattle.gu_base.specs.Numbers.{EntryPart}
use Rattle.gu_base.specs.Nodes.{node_of, nodes_of, split_of, decision_of}
use Rattle.gu_base.specs.Places.{place_of}
use Rattle.gu_base.specs.declared.entry.Record.{Record}
use Rattle.gu_base.specs.declared.node.Place.{Place}
use Rattle.gu_base.specs.declared.node.Kind.{Kind}
use Rattle.gu_base.specs.declared.node.Kind.TheVariants.{Given}
use Rattle.gu_base.specs.declared.node.Node.{Node}
use Rattle.gu_base.specs.declared.command.Command.{Command}
use Rattle.gu_base.specs.declared.command.Command.TheVariants.{Claim, Refuse, Cancel}
use Rattle.gu_base.specs.declared.state.State.{State}
use Rattle.gu_base.specs.declared.state.State.TheVariants.{Held, Offered, Claimed, Refused}
use Rattle.gu_base.specs.declared.state.State.TheVariants.{Cancelled}

-- a node as a tree shows it
pub record Row : Type 0 where
  pub depth : ℕ
  pub name : EntryPart
  pub lots : ℕ
  pub place : Option Place
  pub state : State
  pub taker : Option (List ℕ)
  pub decision : Option ℕ

-- the state in which a decision leaves a given part
abbrev pub state_after : Command → State
state_after (Claim _ _) = Claimed
state_after (Refuse _) = Refused
state_after (Cancel _) = Cancelled
state_after _ = Held

-- a given part is offered until it is decided; all other nodes are held
abbrev pub state_of : Kind → Option Record → State
state_of (Given _ _ _) None = Offered
state_of (Given _ _ _) (Some r) = state_after r.command
state_of _ decided = Held

-- the taker of a given part, in every state
abbrev pub taker_of : Kind → Option (List ℕ)
taker_of (Given _ _ taker) = Some taker
taker_of _ = None

-- the row of a node
abbrev pub row_of : List Record → ℕ → Node → Row
row_of l depth x = record {
  depth = depth;
  name = x.name;
  lots = x.lots;
  place = place_of l x.name;
  state = state_of x.kind (decision_of l x.name);
  taker = taker_of x.kind;
  decision = option_map (λ r. r.number) (decision_of l x.name);
}

-- the nodes that a record makes
abbrev pub made_by : Option Record → List Node
made_by None = []
made_by (Some r) = nodes_of r.number r.firm r.command

-- the parts into which a node is split
abbrev pub parts_of : List Record → EntryPart → List Node
parts_of l n = made_by (split_of l n)

-- a node's row, and then those of its parts, each one deeper, through this many levels
abbrev pub rows_within : ℕ → List Record → ℕ → Node → List Row
rows_within zero l depth x = row_of l depth x ∷ []
rows_within (suc levels) l depth x =
    row_of l depth x ∷ flat_map (rows_within levels l (depth + 1)) (parts_of l x.name)

-- the rows of a node and of all below it
abbrev pub rows_from : List Record → Option Node → List Row
rows_from l None = []
rows_from l (Some x) = rows_within (length l) l 0 x

-- the rows of a trade's tree: each level takes a Split, so the list's length is enough levels
abbrev pub rows_of : List Record → ℕ → List Row
rows_of l trade = rows_from l (node_of l (record { entry = trade; part = 0 }))
