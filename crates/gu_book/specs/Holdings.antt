-- What stands in accounts, and what a change moves from one to another.
use Rattle.std.specs.Prelude.{◌≡◌, ℕ, ◌+◌, ◌<◌, ◌≤◌, ◌^◌, ◌&&◌, ◌==◌, if◌then◌else◌, List, [], ◌∷◌}
use Rattle.std.specs.Prelude.{find, filter_map, sum_by, Option, Some, None, option_map}
use Rattle.std.specs.Prelude.{option_and_then, bytes_eq}
use Rattle.gu_base.specs.Numbers.{EntryPart}
use Rattle.gu_base.specs.Nodes.{deal_in, node_of, parent}
use Rattle.gu_base.specs.Places.{place_of, root_of}
use Rattle.gu_base.specs.Positions.{same_side, position_of}
use Rattle.gu_base.specs.declared.command.Part.{Part}
use Rattle.gu_base.specs.declared.command.Side.{Side}
use Rattle.gu_base.specs.declared.command.Command.{Command}
use Rattle.gu_base.specs.declared.command.Command.TheVariants.{Trade, Split, Claim}
use Rattle.gu_base.specs.declared.entry.Record.{Record}
use Rattle.gu_base.specs.declared.node.Node.{Node}
use Rattle.gu_base.specs.declared.node.Place.{Place}
use Rattle.gu_positions.specs.Rows.{PositionRows, lots_in, is_key, IsReady}
use Rattle.gu_positions.specs.declared.positions.Key.{Key}
use Rattle.gu_book.specs.declared.rules.holdings.Holding.{Holding}
use Rattle.gu_base.specs.declared.node.Deal.{Deal}

-- what the change of this number trades
abbrev pub deal_of : List Record → ℕ → Option Deal
deal_of l k = option_and_then (λ r. deal_in r.command) (find (λ r. r.number == k) l)

-- what a node's trade trades
abbrev pub traded_at : List Record → EntryPart → Option Deal
traded_at l n = option_and_then (λ root. deal_of l root.entry) (root_of l n)

-- so many lots of what was traded, in an account
abbrev pub held_at : Option Place → Option Deal → ℕ → Option Holding
held_at None _ lots = None
held_at (Some p) None lots = None
held_at (Some p) (Some t) lots = Some (record {
  key = record {
    firm = p.firm;
    account = p.account;
    instrument = t.instrument;
  };
  side = t.side;
  lots = lots;
})

-- the lots of a node, where it stands
abbrev pub holding_of : List Record → Node → Option Holding
holding_of l x = held_at (place_of l x.name) (traded_at l x.name) x.lots

-- the lots of a node, where the node above it stands
abbrev pub held_above : List Record → Node → Option Holding
held_above l x = held_at (option_and_then (place_of l) (parent x.kind)) (traded_at l x.name) x.lots

-- what a change took, read off a list in which it still stands: a Split from where its node stands,
-- a Claim from where the node above does
abbrev pub taken_before : List Record → Command → Option Holding
taken_before l (Split n _) = option_and_then (holding_of l) (node_of l n)
taken_before l (Claim n _) = option_and_then (held_above l) (node_of l n)
taken_before l _ = None

-- what a part holds: an own part in its account, a given part where the whole stood
abbrev pub part_holding : Holding → List ℕ → Part → Option Holding
part_holding whole by p =
    if bytes_eq p.firm by
    then option_map (λ account. record {
      key = record {
        firm = by;
        account = account;
        instrument = whole.key.instrument;
      };
      side = whole.side;
      lots = p.lots;
    }) p.account
    else Some (record { key = whole.key; side = whole.side; lots = p.lots })

-- so many lots of the whole's in an account of the firm
abbrev pub holding_away : Holding → List ℕ → List ℕ → ℕ → Holding
holding_away whole by account lots = record {
  key = record {
    firm = by;
    account = account;
    instrument = whole.key.instrument;
  };
  side = whole.side;
  lots = lots;
}

-- what a part holds in another account than the one in which the whole stood
abbrev pub part_away : Holding → List ℕ → Part → Option Holding
part_away whole by p =
    if bytes_eq p.firm by
    then option_and_then (λ account. if bytes_eq account whole.key.account then None else Some
    (holding_away whole by account p.lots)) p.account
    else None

-- the lots that are held, if any are
abbrev pub lots_told : Option Holding → ℕ
lots_told None = 0
lots_told (Some h) = h.lots

-- what a change puts into accounts: a Trade its lots, a Split those of its parts, a Claim what it
-- took, in its own account
abbrev pub added_by : List ℕ → Command → Option Holding → List Holding
added_by by (Trade firm account instrument side lots) taken =
    record {
      key = record { firm = firm; account = account; instrument = instrument };
      side = side;
      lots = lots;
    } ∷ []
added_by by (Split _ parts) (Some whole) = filter_map (part_holding whole by) parts
added_by by (Claim _ account) (Some whole) =
    record {
      key = record { firm = by; account = account; instrument = whole.key.instrument };
      side = whole.side;
      lots = whole.lots;
    } ∷ []
added_by by _ _ = []

-- what goes back of the lots that a change took: of a Split's those of the parts that went to other
-- accounts
abbrev pub goes_back : List ℕ → Command → Option Holding → Option Holding
goes_back by (Split _ parts) (Some whole) = Some (record {
  key = whole.key;
  side = whole.side;
  lots = sum_by (λ h. h.lots) (filter_map (part_away whole by) parts);
})
goes_back by c taken = taken

-- and where it has been meanwhile, as what a Trade brought has
abbrev pub comes_from : List ℕ → Command → Option Holding → List Holding
comes_from by (Split _ parts) (Some back) = filter_map (part_away back by) parts
comes_from by c back = added_by by c back

-- the lots of the parts of a Split are few enough to be counted
abbrev pub HasFewLots : Command → Type 0
HasFewLots (Split _ parts) = sum_by (λ p. p.lots) parts < 2 ^ 64
HasFewLots _ = Unit {0}

-- what a holding counts in an account, of one instrument and on one side
abbrev pub counted_at : Key → Side → Holding → ℕ
counted_at at side h = if is_key h.key at && same_side h.side side then h.lots else 0

-- the same, if there is one
abbrev pub taken_at : Key → Side → Option Holding → ℕ
taken_at at side None = 0
taken_at at side (Some h) = counted_at at side h

-- each row has room for all of these holdings' lots
abbrev pub HaveRoom : PositionRows → List Holding → Type 0
HaveRoom rows hs =
    (at : Key) (side : Side) → lots_in rows at side + sum_by (λ h. h.lots) hs < 2 ^ 64

-- the rows have the same lots
abbrev pub SameLots : PositionRows → PositionRows → Type 0
SameLots old new = (at : Key) (side : Side) → lots_in new at side ≡ lots_in old at side

-- the rows have lost what was taken, and have what was added
abbrev pub HaveMoved : PositionRows → PositionRows → Option Holding → List Holding → Type 0
HaveMoved old new taken added = (at : Key) (side : Side)
    → lots_in new at side + taken_at at side taken ≡ lots_in old at side
    + sum_by (counted_at at side) added

-- all of these holdings are there
abbrev pub HaveThere : PositionRows → List Holding → Type 0
HaveThere rows hs = (at : Key) (side : Side) → sum_by (counted_at at side) hs ≤ lots_in rows at side

-- the row to which lots go back is there, if some do
abbrev pub IsReadyBack : PositionRows → Option Holding → Type 0
IsReadyBack rows None = Unit {0}
IsReadyBack rows (Some h) = 0 < h.lots → IsReady rows h.key

-- and has room for them once the holdings are gone
abbrev pub HasRoomBack : PositionRows → Option Holding → List Holding → Type 0
HasRoomBack rows None hs = Unit {0}
HasRoomBack rows (Some h) hs =
    lots_in rows h.key h.side + h.lots < 2 ^ 64 + sum_by (counted_at h.key h.side) hs

-- the rows are the positions of the list
pub record ArePositionsOf (l : List Record) (rows : PositionRows) : Type 0 where
  pub lots : (at : Key) (side : Side) → lots_in rows at side
      ≡ position_of l at.firm at.account at.instrument side
