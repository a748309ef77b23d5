-- Which command it is, what it takes, and how large what it deals is: words of the proofs alone.
use Rattle.std.specs.Prelude.{◌≤◌, Bool, true, false, List, Option, None, option_and_then}
use Rattle.gu_base.specs.Limits.{most_lots, highest_limit}
use Rattle.gu_base.specs.Nodes.{node_of}
use Rattle.gu_base.specs.declared.command.Command.{Command}
use Rattle.gu_base.specs.declared.command.Command.TheVariants.{Claim, Split}
use Rattle.gu_base.specs.declared.entry.Record.{Record}
use Rattle.gu_base.specs.declared.house.Deed.{Deed}
use Rattle.gu_base.specs.declared.house.Deed.TheVariants.{Makes, Raises, Uses}
use Rattle.gu_book.specs.Holdings.{holding_of}
use Rattle.gu_book.specs.Limits.{TermsWithinLimits}
use Rattle.gu_book.specs.declared.rules.holdings.Holding.{Holding}

abbrev pub is_claim : Command → Bool
is_claim (Claim _ _) = true
is_claim _ = false

-- what a change takes out of an account: a Split and a Claim the lots of the node that they name
abbrev pub taken_by : List Record → Command → Option Holding
taken_by l (Split n _) = option_and_then (holding_of l) (node_of l n)
taken_by l (Claim n _) = option_and_then (holding_of l) (node_of l n)
taken_by l _ = None

-- terms within their limits, a raise of at most 10,000,000,000,000 lots, a claim of at most
-- 10,000,000
abbrev pub IsSmallDeed : Deed → Type 0
IsSmallDeed (Makes terms) = TermsWithinLimits terms.rate terms.limit
IsSmallDeed (Raises lots) = lots ≤ highest_limit
IsSmallDeed (Uses lots) = lots ≤ most_lots
