-- The control line: counts and sums of the lines that follow.
use Rattle.std.specs.Prelude.{ℕ, Bool, true, false, if◌then◌else◌, List, [], ◌∷◌, sum_by, Option}
use Rattle.std.specs.Prelude.{Some}
use Rattle.std.specs.Prelude.{None, is_some}
use Rattle.gu_base.specs.House.{House}
use Rattle.gu_base.specs.Fees.{paid_by, received_by}
use Rattle.gu_base.specs.History.{live}
use Rattle.gu_base.specs.Positions.{position_of}
use Rattle.gu_base.specs.declared.command.Command.{Command}
use Rattle.gu_base.specs.declared.command.Command.TheVariants.{Trade}
use Rattle.gu_base.specs.declared.command.Side.{Side}
use Rattle.gu_base.specs.declared.command.Side.TheVariants.{Buy, Sell}
use Rattle.gu_base.specs.declared.entry.Entry.{Entry}
use Rattle.gu_base.specs.declared.entry.Record.{Record}
use Rattle.gu_base.specs.declared.house.Account.{Account}
use Rattle.gu_statement.specs.Lines.{Whose, is_of, involves}
use Rattle.gu_statement.specs.Kinds.{hop_there}
use Rattle.gu_statement.specs.declared.lines.Control.{Control}

-- an entry is in the statement
abbrev pub is_shown : House → List Entry → Whose → List ℕ → Command → Bool
is_shown t h None by command = true
is_shown t h (Some f) by command = involves t.house h f by command

-- what stands for something, 0 where it isn't there
abbrev pub count_some : {A : Type 0} → (A → ℕ) → Option A → ℕ
count_some f None = 0
count_some f (Some x) = f x

-- one, if so
abbrev pub one_if : Bool → ℕ
one_if b = if b then 1 else 0

-- the entries of the statement
abbrev pub entry_counts : House → List Entry → Whose → Entry → ℕ
entry_counts t h whose e = one_if (is_shown t h whose e.firm e.command)

abbrev pub entries_in : House → List Entry → Whose → ℕ
entries_in t h whose = sum_by (entry_counts t h whose) h

-- a Trade for a firm of the statement
abbrev pub is_trade_in : Whose → Command → Bool
is_trade_in whose (Trade firm _ _ _ _) = is_of whose (firm ∷ [])
is_trade_in whose _ = false

-- the live trades
abbrev pub trade_counts : Whose → Record → ℕ
trade_counts whose r = one_if (is_trade_in whose r.command)

abbrev pub trades_in : List Record → Whose → ℕ
trades_in l whose = sum_by (trade_counts whose) l

-- the hops
abbrev pub hop_counts : House → List Record → Whose → Record → ℕ
hop_counts t l whose r = one_if (is_some (hop_there t l whose r))

abbrev pub hops_in : House → List Record → Whose → ℕ
hops_in t l whose = sum_by (hop_counts t l whose) l

-- the lots of a side that stand in an account in an instrument
abbrev pub lots_at : List Record → Side → Account → List ℕ → ℕ
lots_at l side a instrument = position_of l a.firm a.name instrument side

-- and in all of them, if the account may be seen
abbrev pub account_lots : House → List Record → Whose → Side → Account → ℕ
account_lots t l whose side a =
    if is_of whose (a.firm ∷ [])
    then sum_by (lots_at l side a) t.instruments
    else 0

-- the lots of a side in all positions
abbrev pub lots_in : House → List Record → Whose → Side → ℕ
lots_in t l whose side = sum_by (account_lots t l whose side) t.accounts

-- what a firm pays, or receives
abbrev pub fees_of : House → List Record → Bool → List ℕ → ℕ
fees_of t l true f = paid_by t l f
fees_of t l false f = received_by t l f

-- the same, if it may be seen
abbrev pub fees_seen : House → List Record → Whose → Bool → List ℕ → ℕ
fees_seen t l whose pays f = if is_of whose (f ∷ []) then fees_of t l pays f else 0

-- the sum of the balances
abbrev pub fees_in : House → List Record → Whose → Bool → ℕ
fees_in t l whose pays = sum_by (fees_seen t l whose pays) (t.house ∷ t.firms)

abbrev pub control_line : House → List Entry → Whose → Option ℕ → Control
control_line t h whose refused = record {
  entries = entries_in t h whose;
  trades = trades_in (live h) whose;
  long = lots_in t (live h) whose Buy;
  short = lots_in t (live h) whose Sell;
  hops = hops_in t (live h) whose;
  paid = fees_in t (live h) whose true;
  received = fees_in t (live h) whose false;
  refused = refused;
}
