-- The conditions of a call on the trees, from what a look-up lends.
use Rattle.std.proofs.Common.{◌≡◌, ℕ, Option, Some, None, IsSomeAnd, List}
use Rattle.gu_tree.specs.Rose.{Rose}
use Rattle.gu_tree.specs.Paths.{node_at, HasAt}
use Rattle.gu_tree.proofs.Parts.{at_there}

-- what holds of the node that was lent holds at its path
pub there : (P : Rose → Type 0) (o : Option Rose) (p : List ℕ) (v : Rose) → IsSomeAnd o (λ t. node_at p t ≡ Some v)
    → P v → IsSomeAnd o (HasAt p P)
there P None p v at holds = absurd at
there P (Some t) p v at holds = at_there P (node_at p t) v at holds
