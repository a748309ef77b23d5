use Rattle.gu_fees.proofs.pair.PairTerms.limit.Goals as goal
use Rattle.{gu_fees.proofs.Dealings.low_terms, std.proofs.Common.{arith, rules, sym}}

pub overflow_add-result : goal.overflow_add-result
overflow_add-result c =
    let low = low_terms _
    _ _ c.self.invariant.kept.small (sym (rw (← c.self.view_is) at c.in-Some.ensures)) in
    let raised = c.self.invariant.kept.raised_is in
    let small = c.self.invariant.kept.small.raised in
    omega arith

pub returns-in-Some : goal.returns-in-Some
returns-in-Some c = search rules
