-- Which trade a change belongs to, and which trades have an open offer.
use Rattle.std.specs.Prelude.{◌≡◌, ℕ, ◌≤◌, Bool, true, false, ◌&&◌, ◌==◌, List, Option, Some, None}
use Rattle.std.specs.Prelude.{option_map, filter, not, ◌+◌}
use Rattle.std.specs.List.{list_any}
use Rattle.gu_base.specs.Numbers.{EntryPart}
use Rattle.gu_base.specs.House.{House}
use Rattle.gu_base.specs.Nodes.{nodes, is_offered}
use Rattle.gu_base.specs.Positions.{position_of}
use Rattle.gu_base.specs.Fees.{paid_by, received_by}
use Rattle.gu_base.specs.Rows.{rows_of}
use Rattle.gu_base.specs.Terms.{terms_of, limit_of, used_of}
use Rattle.gu_base.specs.Places.{root_of}
use Rattle.gu_base.specs.declared.command.Command.{Command}
use Rattle.gu_base.specs.declared.command.Command.TheVariants.{Trade, Split, Claim, Refuse, Cancel}
use Rattle.gu_base.specs.declared.command.Side.{Side}
use Rattle.gu_base.specs.declared.entry.Record.{Record}

-- the trade of a node
abbrev pub trade_at : List Record → EntryPart → Option ℕ
trade_at l n = option_map (λ r. r.entry) (root_of l n)

-- the trade of a change: a Trade's own, and that of the node that a Split or a decision names
abbrev pub trade_of : List Record → ℕ → Command → Option ℕ
trade_of l k (Trade _ _ _ _ _) = Some k
trade_of l k (Split n _) = trade_at l n
trade_of l k (Claim n _) = trade_at l n
trade_of l k (Refuse n) = trade_at l n
trade_of l k (Cancel n) = trade_at l n
trade_of l k _ = None

-- the test, where there is a trade
abbrev pub passes : (ℕ → Bool) → Option ℕ → Bool
passes p None = true
passes p (Some trade) = p trade

-- the changes of the trades that pass the test, and those of no trade
abbrev pub in_trades : List Record → (ℕ → Bool) → Record → Bool
in_trades l p r = passes p (trade_of l r.number r.command)

-- it is this trade
abbrev pub is_trade : ℕ → Option ℕ → Bool
is_trade trade None = false
is_trade trade (Some k) = k == trade

-- some part of the trade is offered
abbrev pub is_open : List Record → ℕ → Bool
is_open l trade = list_any (λ x. is_offered l x && is_trade trade (trade_at l x.name)) (nodes l)

-- what the changes of some trades alone tell: each of the trades has its rows, all terms and limits
-- are the same, and no more is used
pub record TellsOfTrades (t : House) (l : List Record) (p : ℕ → Bool) : Type 0 where
  pub trees : (trade : ℕ) → p trade ≡ true
      → rows_of (filter (in_trades l p) l) trade ≡ rows_of l trade
  pub terms : (giver taker : List ℕ)
      → terms_of t (filter (in_trades l p) l) giver taker ≡ terms_of t l giver taker
  pub limits : (giver taker : List ℕ)
      → limit_of t (filter (in_trades l p) l) giver taker ≡ limit_of t l giver taker
  pub used : (giver taker : List ℕ)
      → used_of (filter (in_trades l p) l) giver taker ≤ used_of l giver taker

-- the changes of these trades, and those of no trade
abbrev pub part : List Record → (ℕ → Bool) → List Record
part l p = filter (in_trades l p) l

-- some trades and the others: what all of them together tell is the sum of what the two parts tell
pub record IsSplitInTwo (t : House) (l : List Record) (p : ℕ → Bool) : Type 0 where
  pub positions : (firm account instrument : List ℕ) (side : Side)
      → position_of (part l p) firm account instrument side
      + position_of (part l (λ n. not (p n))) firm account instrument side
      ≡ position_of l firm account instrument side
  pub paid : (firm : List ℕ)
      → paid_by t (part l p) firm + paid_by t (part l (λ n. not (p n))) firm ≡ paid_by t l firm
  pub received : (firm : List ℕ)
      → received_by t (part l p) firm + received_by t (part l (λ n. not (p n))) firm
      ≡ received_by t l firm
  pub used : (giver taker : List ℕ)
      → used_of (part l p) giver taker + used_of (part l (λ n. not (p n))) giver taker
      ≡ used_of l giver taker
