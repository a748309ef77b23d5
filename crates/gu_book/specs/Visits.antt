-- How many nodes of the trees a call visits, and how many entries of a giver and a taker.
-- A visit is a node that the call looks at, makes or takes away, counted once for the call: the
-- nodes on the ways from their roots that it hands to the trees, and the parts that it makes, takes
-- away or asks after. An entry of a giver and a taker that it looks at is a visit too: a Reverse of
-- a Claim, an Agree or a Raise may look at each, so all of them are counted.
use Rattle.std.specs.Prelude.{◌≡◌, ◌≤◌, ◌<◌, ◌+◌, ◌^◌, ℕ, Bool, true, false, if◌then◌else◌, List}
use Rattle.std.specs.Prelude.{length, Option, option_and_then, option_map, unwrap_or, IsSome}
use Rattle.std.specs.Prelude.{IsSomeAnd, Result, Ok, Err}
use Rattle.gu_base.specs.Numbers.{EntryPart}
use Rattle.gu_base.specs.Nodes.{node_of}
use Rattle.gu_base.specs.Places.{depth_of}
use Rattle.gu_base.specs.Answers.{is_accepted}
use Rattle.gu_base.specs.Terms.{dealings}
use Rattle.gu_depend.specs.Terms.{pair_of}
use Rattle.gu_base.specs.declared.house.Pair.{Pair}
use Rattle.gu_base.specs.declared.command.Command.{Command}
use Rattle.gu_base.specs.declared.command.Command.TheVariants.{Trade, Split, Claim, Refuse, Cancel}
use Rattle.gu_base.specs.declared.command.Command.TheVariants.{Initiate, Decline, Reverse}
use Rattle.gu_base.specs.declared.entry.Answer.{Answer}
use Rattle.gu_base.specs.declared.entry.Record.{Record}
use Rattle.gu_tree.specs.Shown.{named_node}
use Rattle.gu_tree.specs.ShownAll.{change_of, place_in}

-- the node that a command names; where it names an entry, the one that this entry made or named, of
-- a Trade its root
abbrev pub node_meant : List Record → Command → Option EntryPart
node_meant l (Initiate k) = place_in l k
node_meant l (Decline k) = place_in l k
node_meant l (Reverse k) = place_in l k
node_meant l c = named_node c

-- how deep this node lies; 0 where there is none
abbrev pub depth_meant : List Record → Command → ℕ
depth_meant l c = unwrap_or (option_map (depth_of l) (node_meant l c)) 0

-- the parts of a Split
abbrev pub parts_in : Command → ℕ
parts_in (Split _ parts) = length parts
parts_in _ = 0

-- the parts of the Split that a Reverse names
abbrev pub parts_named : List Record → Command → ℕ
parts_named l (Reverse k) = unwrap_or (option_map (λ r. parts_in r.command) (change_of l k)) 0
parts_named l _ = 0

-- the same, and those of the Split that a call was, if it was kept
abbrev pub parts_met : List Record → Command → Bool → ℕ
parts_met l c kept = (if kept then parts_in c else 0) + parts_named l c

-- the giver and the taker of a command of a firm; where it names an entry, those of this entry
abbrev pub pair_meant : List Record → List ℕ → Command → Option Pair
pair_meant l by (Initiate k) = option_and_then (λ r. pair_of l r.firm r.command) (change_of l k)
pair_meant l by (Decline k) = option_and_then (λ r. pair_of l r.firm r.command) (change_of l k)
pair_meant l by (Reverse k) = option_and_then (λ r. pair_of l r.firm r.command) (change_of l k)
pair_meant l by c = pair_of l by c

-- their Agree, Raises and Claims; 0 where there are no such two
abbrev pub entries_met : List Record → List ℕ → Command → ℕ
entries_met l by c =
    unwrap_or (option_map (λ p. length (dealings l p.giver p.taker)) (pair_meant l by c)) 0

-- a change of trees
abbrev pub is_of_trees : Command → Bool
is_of_trees (Trade _ _ _ _ _) = true
is_of_trees (Split _ _) = true
is_of_trees (Claim _ _) = true
is_of_trees (Refuse _) = true
is_of_trees (Cancel _) = true
is_of_trees _ = false

-- such a change, or the Reverse of one
abbrev pub changes_trees : List Record → Command → Bool
changes_trees l (Reverse k) =
    unwrap_or (option_map (λ r. is_of_trees r.command) (change_of l k)) false
changes_trees l c = is_of_trees c

-- whether a call was kept
abbrev pub is_kept : {E : Type 0} → Result Answer E → Bool
is_kept (Ok a) = is_accepted a
is_kept (Err e) = false

-- a call of a firm visits at most two nodes more than its node lies deep and the parts are many,
-- and the entries of its giver and taker; and one more at least, where it changes the trees
pub record AreVisits (l : List Record) (by : List ℕ) (c : Command) (kept : Bool) (visits : ℕ) : Type
    0 where
  pub most : visits ≤ depth_meant l c + parts_met l c kept + entries_met l by c + 2
  pub least : kept ≡ true → changes_trees l c ≡ true
      → depth_meant l c + parts_met l c true + 1 ≤ visits

-- ---- what the code counts

-- the changes make the node that a change names, and have the one that a Reverse names
abbrev pub IsMet : List Record → Command → Type 0
IsMet l (Reverse k) = IsSome (place_in l k)
IsMet l c = IsSomeAnd (named_node c) (λ n. IsSome (node_of l n))

-- the nodes that a kept call makes: the root of a Trade, the parts of a Split
abbrev pub nodes_made : Command → ℕ
nodes_made (Trade _ _ _ _ _) = 1
nodes_made c = parts_in c

-- so many nodes and entries were looked at for what a command of a firm names
pub record AreSeen (l : List Record) (by : List ℕ) (c : Command) (nodes : ℕ) : Type 0 where
  pub most : nodes ≤ depth_meant l c + parts_named l c + entries_met l by c + 1
  pub least : IsMet l c → depth_meant l c + parts_named l c + 1 ≤ nodes
  pub fits : (made : ℕ) → made ≡ nodes_made c → made < 2 ^ 63 → nodes + made < 2 ^ 64
