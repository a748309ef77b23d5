-- The status of an entry.
use Rattle.std.specs.Prelude.{ℕ, Bool, true, false}
use Rattle.gu_base.specs.declared.state.State.{State}
use Rattle.gu_base.specs.declared.state.State.TheVariants.{Held, Offered, Claimed, Refused}
use Rattle.gu_base.specs.declared.state.State.TheVariants.{Cancelled, ReversalPending, Reversed}

-- the state that an entry shows, by its own, whether its reversal is pending, and whether it is
-- reversed
abbrev pub shown_state : State → Bool → Bool → State
shown_state own pending true = Reversed
shown_state own true false = ReversalPending
shown_state own false false = own

-- AllocStatus (87) of a state
abbrev pub code_of : State → ℕ
code_of Held = 0
code_of Offered = 6
code_of Reversed = 7
code_of Claimed = 9
code_of Refused = 10
code_of Cancelled = 12
code_of ReversalPending = 14
