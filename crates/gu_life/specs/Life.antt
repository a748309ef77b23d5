-- The life of a given part.
use Rattle.std.specs.Prelude.{Option, Some, None}
use Rattle.gu_base.specs.declared.state.State.{State}
use Rattle.gu_base.specs.declared.state.State.TheVariants.{Offered, Claimed, Refused, Cancelled}
use Rattle.gu_life.specs.declared.Act.{Act}
use Rattle.gu_life.specs.declared.Act.TheVariants.{Claim, Refuse, Cancel, Reverse}

-- the state that an act leads to: a decision about an offered part, or the reversal of one
abbrev pub state_after : State → Act → Option State
state_after Offered Claim = Some Claimed
state_after Offered Refuse = Some Refused
state_after Offered Cancel = Some Cancelled
state_after Claimed Reverse = Some Offered
state_after Refused Reverse = Some Offered
state_after Cancelled Reverse = Some Offered
state_after _ _ = None
