-- Running rows of positions.
use Rattle.std.specs.Prelude.{ℕ, ◌+◌, ◌<◌, ◌^◌, Bool, ◌&&◌, List, is_some, unwrap_or, bytes_eq}
use Rattle.std.specs.Prelude.{IsTrue}
use Rattle.std.specs.Map.{lookup}
use Rattle.gu_base.specs.declared.command.Side.{Side}
use Rattle.gu_base.specs.declared.command.Side.TheVariants.{Buy, Sell}
use Rattle.gu_positions.specs.declared.positions.Key.{Key}
use Rattle.gu_positions.specs.declared.positions.Row.{Row}

-- a row for each account and instrument: the lots of buy trades and those of sell trades
abbrev pub PositionRows : Type 0
PositionRows = List (Key × Row)

-- the two are one key
abbrev pub is_key : Key → Key → Bool
is_key a b =
    bytes_eq a.firm b.firm && (bytes_eq a.account b.account && bytes_eq a.instrument b.instrument)

-- the lots of one side
abbrev pub lots_on : Side → Row → ℕ
lots_on Buy row = row.long
lots_on Sell row = row.short

-- the row of an account, of one instrument. No row stands for zero
abbrev pub row_at : PositionRows → Key → Row
row_at r key = unwrap_or (lookup (is_key key) r) (record { long = 0; short = 0 })

-- the lots of an account, of one instrument and on one side
abbrev pub lots_in : PositionRows → Key → Side → ℕ
lots_in r key side = lots_on side (row_at r key)

-- the account has its row
abbrev pub IsReady : PositionRows → Key → Type 0
IsReady r key = IsTrue (is_some (lookup (is_key key) r))

-- the row is there, and its sum has room for these lots
pub record CanAdd (r : PositionRows) (key : Key) (side : Side) (lots : ℕ) : Type 0 where
  pub ready : IsReady r key
  pub fits : lots_in r key side + lots < 2 ^ 64
