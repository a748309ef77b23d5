use Rattle.gu_ids.specs.Chains.{Stands}
use Rattle.gu_ids.proofs.ids.Ids.walk.Given as goal

abbrev pub invariant-loop-number : goal.invariant-loop-number
invariant-loop-number l = Stands l.self l.entries l.firm l.id l.number

abbrev pub decreases-loop-number : goal.decreases-loop-number
decreases-loop-number l = l.number
