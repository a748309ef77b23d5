-- Which changes are of trades with a part that waits for a decision, read off their numbers.
use Rattle.std.specs.Prelude.{ℕ, ◌+◌, ◌-◌, ◌*◌, Bool, true, false, not, ◌&&◌, ◌||◌, ◌==◌, List, []}
use Rattle.std.specs.Prelude.{◌∷◌, Option, Some, None, slice_get, slice_set, bytes_eq}
use Rattle.std.specs.BTreeSet.{BTreeSet, contains}
use Rattle.std.specs.Ordering.{nat_cmp}
use Rattle.gu_base.specs.Answers.{entry_of}
use Rattle.gu_base.specs.Numbers.{EntryPart}
use Rattle.gu_base.specs.declared.command.Command.{Command}
use Rattle.gu_base.specs.declared.command.Command.TheVariants.{Trade, Split, Claim, Refuse, Cancel}
use Rattle.gu_base.specs.declared.command.Part.{Part}
use Rattle.gu_base.specs.declared.entry.Entry.{Entry}
use Rattle.gu_base.specs.declared.entry.Record.{Record}
use Rattle.gu_lives.specs.Trades.{is_trade}

-- ---- the trade of each change

-- what stands in a cell of a table
abbrev pub inner : Option (Option ℕ) → Option ℕ
inner (Some o) = o
inner None = None

-- the trade that a table has at a number
abbrev pub cell : List (Option ℕ) → ℕ → Option ℕ
cell trades n = inner (slice_get trades (n - 1))

-- the trade of a change, where those of the changes that made the nodes are known
abbrev pub trade_by : (ℕ → Option ℕ) → ℕ → Command → Option ℕ
trade_by known k (Trade _ _ _ _ _) = Some k
trade_by known k (Split n _) = known n.entry
trade_by known k (Claim n _) = known n.entry
trade_by known k (Refuse n) = known n.entry
trade_by known k (Cancel n) = known n.entry
trade_by known k _ = None

-- the table with the trade of one more change, if there is one of the number
abbrev pub trades_with : List (Option ℕ) → ℕ → Option Record → List (Option ℕ)
trades_with trades n None = trades
trades_with trades n (Some r) = slice_set trades (n - 1) (trade_by (cell trades) n r.command)

-- and with those of more changes
abbrev pub trades_from : List Entry → List (Option ℕ) → List ℕ → List (Option ℕ)
trades_from h trades [] = trades
trades_from h trades (n ∷ numbers) = trades_from h (trades_with trades n (entry_of h n)) numbers

-- ---- the nodes that are decided

-- what a node is known by
abbrev pub key : EntryPart → ℕ
key n = n.entry * 128 + n.part

-- the node that a change decides on
abbrev pub decided_key : Command → Option ℕ
decided_key (Claim n _) = Some (key n)
decided_key (Refuse n) = Some (key n)
decided_key (Cancel n) = Some (key n)
decided_key _ = None

abbrev pub is_key : ℕ → Option ℕ → Bool
is_key k None = false
is_key k (Some m) = k == m

abbrev pub decides_key : ℕ → Option Record → Bool
decides_key k None = false
decides_key k (Some r) = is_key k (decided_key r.command)

-- the change of this number decides on the node that is known by k
abbrev pub decides_at : List Entry → ℕ → ℕ → Bool
decides_at h k n = decides_key k (entry_of h n)

-- ---- the trades that wait

-- some part, from this one on, is given up and its node isn't among those that are decided
abbrev pub has_waiting : BTreeSet ℕ → ℕ → ℕ → List ℕ → List Part → Bool
has_waiting decided entry i by [] = false
has_waiting decided entry i by (p ∷ parts) =
    (not (bytes_eq p.firm by) && not (contains nat_cmp decided (entry * 128 + i)))
    || has_waiting decided entry (i + 1) by parts

abbrev pub waits_by : BTreeSet ℕ → ℕ → List ℕ → Command → Bool
waits_by decided entry by (Split _ parts) = has_waiting decided entry 1 by parts
waits_by decided entry by _ = false

abbrev pub opens_by : List (Option ℕ) → BTreeSet ℕ → ℕ → ℕ → Option Record → Bool
opens_by trades decided k n None = false
opens_by trades decided k n (Some r) =
    waits_by decided n r.firm r.command && is_trade k (cell trades n)

-- the change of this number makes a part that waits, of the trade k
abbrev pub opens_at : List Entry → List (Option ℕ) → BTreeSet ℕ → ℕ → ℕ → Bool
opens_at h trades decided k n = opens_by trades decided k n (entry_of h n)

-- whether a flag is set
abbrev pub is_set : Option Bool → Bool
is_set (Some b) = b
is_set None = false

abbrev pub flag : List Bool → ℕ → Bool
flag flags k = is_set (slice_get flags (k - 1))

abbrev pub is_kept_in : List Bool → Option ℕ → Bool
is_kept_in flags None = true
is_kept_in flags (Some k) = flag flags k

-- the change of this number is of an open trade, or of none
abbrev pub is_kept_by : List (Option ℕ) → List Bool → ℕ → Bool
is_kept_by trades flags n = is_kept_in flags (cell trades n)
