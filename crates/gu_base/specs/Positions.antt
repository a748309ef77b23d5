-- The leaves of a list of changes, and the lots that stand in an account.
use Rattle.std.specs.Prelude.{ℕ, Bool, true, false, ◌&&◌, ◌==◌, List, filter, find, sum_by, is_some}
use Rattle.std.specs.Prelude.{is_none, unwrap_or, option_map, option_and_then, bytes_eq}
use Rattle.gu_base.specs.Numbers.{EntryPart}
use Rattle.gu_base.specs.Nodes.{nodes, split_of}
use Rattle.gu_base.specs.Places.{place_of, root_of, same_place}
use Rattle.gu_base.specs.declared.entry.Record.{Record}
use Rattle.gu_base.specs.declared.node.Place.{Place}
use Rattle.gu_base.specs.declared.node.Node.{Node}
use Rattle.gu_base.specs.declared.command.Side.{Side}
use Rattle.gu_base.specs.declared.command.Side.TheVariants.{Buy, Sell}
use Rattle.gu_base.specs.declared.command.Command.{Command}
use Rattle.gu_base.specs.declared.command.Command.TheVariants.{Trade}

-- a leaf is a node that no Split names
abbrev pub leaves : List Record → List Node
leaves l = filter (λ x. is_none (split_of l x.name)) (nodes l)

-- both buy, or both sell
abbrev pub same_side : Side → Side → Bool
same_side Buy Buy = true
same_side Sell Sell = true
same_side _ _ = false

-- a Trade of this instrument on this side
abbrev pub is_trade_of : List ℕ → Side → Command → Bool
is_trade_of instrument side (Trade _ _ i s _) = bytes_eq i instrument && same_side s side
is_trade_of instrument side _ = false

-- whether the node's trade is of this instrument and on this side
abbrev pub trades_in : List Record → List ℕ → Side → EntryPart → Bool
trades_in l instrument side n =
    is_some (option_and_then
    (λ t. find (λ r. (r.number == t.entry) && is_trade_of instrument side r.command) l)
    (root_of l n))

-- the node stands in the account
abbrev pub stands_at : List Record → Place → EntryPart → Bool
stands_at l at n = unwrap_or (option_map (same_place at) (place_of l n)) false

-- the lots of the leaves that stand in the account, of one instrument and on one side
abbrev pub position_of : List Record → List ℕ → List ℕ → List ℕ → Side → ℕ
position_of l firm account instrument side =
    sum_by (λ x. x.lots)
    (filter (λ x. stands_at l (record { firm = firm; account = account }) x.name
    && trades_in l instrument side x.name)
    (leaves l))
