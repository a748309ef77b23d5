-- The words of a statement.
use Rattle.std.specs.Prelude.{List, ℕ, codes}
use Rattle.gu_base.specs.declared.command.Command.{Command}
use Rattle.gu_base.specs.declared.command.Command.TheVariants.{Trade, Split, Claim, Refuse, Cancel}
use Rattle.gu_base.specs.declared.command.Command.TheVariants.{Agree, Raise, Initiate, Decline}
use Rattle.gu_base.specs.declared.command.Command.TheVariants.{Reverse}
use Rattle.gu_base.specs.declared.command.Side.{Side}
use Rattle.gu_base.specs.declared.command.Side.TheVariants.{Buy, Sell}
use Rattle.gu_base.specs.declared.state.State.{State}
use Rattle.gu_base.specs.declared.state.State.TheVariants.{Held, Offered, Claimed}
use Rattle.gu_base.specs.declared.state.State.TheVariants.{Refused, Cancelled, ReversalPending}
use Rattle.gu_base.specs.declared.state.State.TheVariants.{Reversed}

abbrev pub command_word : Command → List ℕ
command_word (Trade _ _ _ _ _) = codes "trade"
command_word (Split _ _) = codes "split"
command_word (Claim _ _) = codes "claim"
command_word (Refuse _) = codes "refuse"
command_word (Cancel _) = codes "cancel"
command_word (Agree _ _ _ _) = codes "agree"
command_word (Raise _ _) = codes "raise"
command_word (Initiate _) = codes "initiate"
command_word (Decline _) = codes "decline"
command_word (Reverse _) = codes "reverse"

abbrev pub state_word : State → List ℕ
state_word Held = codes "held"
state_word Offered = codes "offered"
state_word Claimed = codes "claimed"
state_word Refused = codes "refused"
state_word Cancelled = codes "cancelled"
state_word ReversalPending = codes "pending"
state_word Reversed = codes "reversed"

abbrev pub side_word : Side → List ℕ
side_word Buy = codes "buy"
side_word Sell = codes "sell"
