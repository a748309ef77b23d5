-- What a change touches in the trees.
use Rattle.std.specs.Prelude.{◌≡◌, ℕ, Bool, ◌||◌, ◌==◌, IsTrue, Option, Some, None, List, [], ◌∷◌}
use Rattle.std.specs.Prelude.{map}
use Rattle.gu_base.specs.Nodes.{nodes_of, is_split, decides}
use Rattle.gu_tree.specs.ShownAll.{named_place}
use Rattle.gu_base.specs.declared.command.Command.{Command}
use Rattle.gu_depend.specs.declared.touch.Touched.{Touched}
use Rattle.gu_depend.specs.declared.touch.Touched.TheVariants.{Root, Parts, Node, Nothing}

-- a command of this number touches the one node that it makes, which is part 0 of that number; the
-- parts that it makes, where it is a Split; the node that it decides; or nothing, where it has no
-- place in the trees
abbrev pub Touches : ℕ → Command → Touched → Type 0
Touches k c Root =
    (by : List ℕ) → map (λ x. x.name) (nodes_of k by c) ≡ record { entry = k; part = 0 } ∷ []
Touches k c Parts = IsTrue (is_split c)
Touches k c (Node n) = IsTrue (decides n c)
Touches k c Nothing = named_place k c ≡ None

-- whether a number is the trade's, or that of the decision of a node
abbrev pub is_trade_or_decision : ℕ → ℕ → Option ℕ → Bool
is_trade_or_decision k trade None = trade == k
is_trade_or_decision k trade (Some decision) = (trade == k) || (decision == k)
