-- What commands name.
use Rattle.std.specs.Prelude.{ℕ, Bool, List, Option, Some, None, if◌then◌else◌}
use Rattle.gu_base.specs.Numbers.{EntryPart}
use Rattle.gu_base.specs.declared.command.Command.{Command}
use Rattle.gu_base.specs.declared.command.Command.TheVariants.{Trade, Split, Claim, Refuse, Cancel}
use Rattle.gu_base.specs.declared.command.Command.TheVariants.{Agree, Raise, Initiate, Decline}
use Rattle.gu_base.specs.declared.command.Command.TheVariants.{Reverse}

-- the account of a Trade, and of a Claim where it is shown
abbrev pub account_of : Bool → Command → Option (List ℕ)
account_of shows (Trade _ account _ _ _) = Some account
account_of shows (Claim _ account) = if shows then Some account else None
account_of shows _ = None

-- the change of which a command speaks
abbrev pub change_of : Command → Option ℕ
change_of (Initiate n) = Some n
change_of (Decline n) = Some n
change_of (Reverse n) = Some n
change_of _ = None

-- the giver and the taker of terms
abbrev pub giver_of : Command → Option (List ℕ)
giver_of (Agree giver _ _ _) = Some giver
giver_of (Raise giver _) = Some giver
giver_of _ = None

abbrev pub taker_of : Command → Option (List ℕ)
taker_of (Agree _ taker _ _) = Some taker
taker_of _ = None

abbrev pub limit_of : Command → Option ℕ
limit_of (Agree _ _ _ limit) = Some limit
limit_of _ = None

abbrev pub rate_of : Command → Option ℕ
rate_of (Agree _ _ rate _) = Some rate
rate_of _ = None

abbrev pub lots_of : Command → Option ℕ
lots_of (Trade _ _ _ _ lots) = Some lots
lots_of (Raise _ lots) = Some lots
lots_of _ = None

-- the node that a command names
abbrev pub node_of : Command → Option EntryPart
node_of (Split n _) = Some n
node_of (Claim n _) = Some n
node_of (Refuse n) = Some n
node_of (Cancel n) = Some n
node_of _ = None

-- for whom a trade is
abbrev pub owner_of : Command → Option (List ℕ)
owner_of (Trade firm _ _ _ _) = Some firm
owner_of _ = None
