-- When the trees of all trades show a list of changes.
use Rattle.std.specs.Prelude.{◌≡◌, ℕ, ◌==◌, Option, Some, None, option_and_then, List, find}
use Rattle.gu_base.specs.Numbers.{EntryPart}
use Rattle.gu_base.specs.Nodes.{node_of}
use Rattle.gu_base.specs.declared.entry.Record.{Record}
use Rattle.gu_base.specs.declared.command.Command.{Command}
use Rattle.gu_base.specs.declared.command.Command.TheVariants.{Trade}
use Rattle.gu_tree.specs.Rose.{Rose}
use Rattle.gu_tree.specs.Shown.{IsTreeOf, named_node}
use Rattle.gu_tree.specs.Grove.{Grove, tree_of, place_of}

-- the change of this number
abbrev pub change_of : List Record → ℕ → Option Record
change_of l k = find (λ r. r.number == k) l

-- the node that a change of this number made or named: a Trade its root, a Split or a decision the
-- node that it names
abbrev pub named_place : ℕ → Command → Option EntryPart
named_place k (Trade _ _ _ _ _) = Some (record { entry = k; part = 0 })
named_place k command = named_node command

-- the place of the change of this number
abbrev pub place_in : List Record → ℕ → Option EntryPart
place_in l k = option_and_then (λ r. named_place r.number r.command) (change_of l k)

-- the tree shows the trade, and there is none where the list has no such trade
abbrev pub IsTreeIn : List Record → ℕ → Option Rose → Type 0
IsTreeIn l trade None = node_of l (record { entry = trade; part = 0 }) ≡ None
IsTreeIn l trade (Some t) = IsTreeOf l trade t

-- each trade of the list has a tree, which shows it, and each change has the node that it made or
-- named as its place; there are no other trees and no other places
pub record ShowsAll (l : List Record) (g : Grove) : Type 0 where
  pub trees : (trade : ℕ) → IsTreeIn l trade (tree_of g trade)
  pub places : (entry : ℕ) → place_of g entry ≡ place_in l entry
