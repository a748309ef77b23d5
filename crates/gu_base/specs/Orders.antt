-- The orders in which changes may stand.
use Rattle.std.specs.Prelude.{◌≡◌, ℕ, Bool, true, ◌&&◌, ◌||◌, List, [], ◌∷◌, ◌++◌, is_some, is_none}
use Rattle.std.specs.Prelude.{IsPermutation, IsTrue}
use Rattle.gu_base.specs.Nodes.{node_of, decision_of}
use Rattle.gu_base.specs.Terms.{dealings}
use Rattle.gu_base.specs.declared.entry.Record.{Record}
use Rattle.gu_base.specs.declared.command.Command.{Command}
use Rattle.gu_base.specs.declared.command.Command.TheVariants.{Split, Claim, Refuse, Cancel}

-- whether what a change names was made before it, and for a Split also decided, if the list has a
-- decision
abbrev pub is_ready : List Record → List Record → Command → Bool
is_ready l before (Split n _) =
    is_some (node_of before n) && (is_none (decision_of l n) || is_some (decision_of before n))
is_ready l before (Claim n _) = is_some (node_of before n)
is_ready l before (Refuse n) = is_some (node_of before n)
is_ready l before (Cancel n) = is_some (node_of before n)
is_ready l before _ = true

-- each finds before it the node that it names
abbrev pub in_lawful_order : List Record → List Record → List Record → Bool
in_lawful_order l before [] = true
in_lawful_order l before (r ∷ rest) =
    is_ready l before r.command && in_lawful_order l (before ++ r ∷ []) rest

-- the same changes, with their numbers, in an order in which each comes after what made or decided
-- its node, and in which the Agree, the Raises and the Claims of each giver and taker stand as they
-- stood
pub record IsLawfulOrder (l order : List Record) : Type 0 where
  pub same : IsPermutation l order
  pub after_its_node : IsTrue (in_lawful_order l [] order)
  pub pairs_stand : (giver taker : List ℕ) → dealings order giver taker ≡ dealings l giver taker
