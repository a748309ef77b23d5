-- Where a node stands, who owns it, how deep it lies, and in which trade.
use Rattle.std.specs.Prelude.{ℕ, zero, suc, ◌-◌, Bool, ◌&&◌, List, [], ◌∷◌, length, Option, Some}
use Rattle.std.specs.Prelude.{None, option_map, option_and_then, bytes_eq}
use Rattle.gu_base.specs.Numbers.{EntryPart}
use Rattle.gu_base.specs.Nodes.{node_of, claim_of, parent}
use Rattle.gu_base.specs.declared.entry.Record.{Record}
use Rattle.gu_base.specs.declared.node.Place.{Place}
use Rattle.gu_base.specs.declared.node.Kind.{Kind}
use Rattle.gu_base.specs.declared.node.Kind.TheVariants.{Root, Own, Given}
use Rattle.gu_base.specs.declared.node.Node.{Node}

-- the two are one account
abbrev pub same_place : Place → Place → Bool
same_place a b = bytes_eq a.firm b.firm && bytes_eq a.account b.account

-- a node, the node above it, and so on up to its root, in this many steps at most
abbrev pub line_within : ℕ → List Record → Option Node → List Node
line_within steps l None = []
line_within zero l (Some x) = []
line_within (suc steps) l (Some x) =
    x ∷ line_within steps l (option_and_then (node_of l) (parent x.kind))

-- the line from a node to its root: each step leads to a node of an earlier change, so the list's
-- length is enough steps
abbrev pub line_of : List Record → EntryPart → List Node
line_of l n = line_within (length l) l (node_of l n)

-- a root and an own part stand in their account, a given part where its claim says, or else where
-- its parent stands
abbrev pub place_of_kind : Kind → Option (List ℕ) → Option Place → Option Place
place_of_kind (Root place) claimed above = Some place
place_of_kind (Own _ firm account) claimed above =
    option_map (λ a. record { firm = firm; account = a }) account
place_of_kind (Given _ _ taker) (Some account) above =
    Some (record { firm = taker; account = account })
place_of_kind (Given _ _ taker) None above = above

-- the account in which the first of a line stands, a node and those above it
abbrev pub place_along : List Record → List Node → Option Place
place_along l [] = None
place_along l (x ∷ above) = place_of_kind x.kind (claim_of l x.name) (place_along l above)

-- the account in which a node stands
abbrev pub place_of : List Record → EntryPart → Option Place
place_of l n = place_along l (line_of l n)

-- the firm in whose account it stands
abbrev pub owner_of : List Record → EntryPart → Option (List ℕ)
owner_of l n = option_map (λ p. p.firm) (place_of l n)

-- how many nodes stand above it: a root has depth 0
abbrev pub depth_of : List Record → EntryPart → ℕ
depth_of l n = length (line_of l n) - 1

-- the last of a line
abbrev pub root_along : List Node → Option EntryPart
root_along [] = None
root_along (x ∷ []) = Some x.name
root_along (x ∷ y ∷ above) = root_along (y ∷ above)

-- the root of the node's tree, whose entry is the node's trade
abbrev pub root_of : List Record → EntryPart → Option EntryPart
root_of l n = root_along (line_of l n)
