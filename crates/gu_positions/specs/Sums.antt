-- What running rows of positions stand for: the sums of what stands in each account.
use Rattle.std.specs.Prelude.{◌≡◌, ℕ, ◌&&◌, List, filter, sum_by}
use Rattle.gu_base.specs.Positions.{same_side}
use Rattle.gu_base.specs.declared.command.Side.{Side}
use Rattle.gu_positions.specs.declared.positions.Key.{Key}
use Rattle.gu_positions.specs.Rows.{PositionRows, lots_in, is_key}

-- lots of one instrument that stand in an account
pub record Stake : Type 0 where
  pub key : Key
  pub side : Side
  pub lots : ℕ

-- the rows are what these sum to
pub record AreSumsOf (r : PositionRows) (xs : List Stake) : Type 0 where
  pub lots : (at : Key) (side : Side)
      → lots_in r at side
      ≡ sum_by (λ x. x.lots) (filter (λ x. is_key x.key at && same_side x.side side) xs)
