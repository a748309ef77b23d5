-- The running sums of what the live claims cost.
use Rattle.std.specs.Prelude.{◌≤◌, List, Option, Some, None}
use Rattle.std.specs.List.{All}
use Rattle.gu_base.specs.Limits.{most_lots, highest_rate}
use Rattle.gu_base.specs.House.{House}
use Rattle.gu_base.specs.Fees.{charges}
use Rattle.gu_base.specs.declared.entry.Record.{Record}
use Rattle.gu_base.specs.declared.node.Charge.{Charge}
use Rattle.gu_fees.specs.Rows.{FeeRows, HasRoom, CanUncharge}
use Rattle.gu_fees.specs.Sums.{AreSumsOf}

-- at most 10,000,000 lots, at a rate of at most 100,000
pub record IsSmallCharge (c : Charge) : Type 0 where
  pub lots : c.lots ≤ most_lots
  pub rate : c.rate ≤ highest_rate

-- the rows are the sums of the charges of the list, each of which is small
pub record AreFeesOf (t : House) (l : List Record) (fees : FeeRows) : Type 0 where
  pub sums : AreSumsOf fees (charges t l)
  pub small : All IsSmallCharge (charges t l)

-- each sum has room for the charge, if there is one
abbrev pub HasRoomFor : FeeRows → Option Charge → Type 0
HasRoomFor fees None = Unit {0}
HasRoomFor fees (Some c) = HasRoom fees c.giver c.taker c.lots c.rate

-- each sum has it, if there is one
abbrev pub IsCharged : FeeRows → Option Charge → Type 0
IsCharged fees None = Unit {0}
IsCharged fees (Some c) = CanUncharge fees c.giver c.taker c.lots c.rate
