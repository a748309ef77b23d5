use Rattle.std.proofs.Common.{rules, arith}
use Rattle.std.proofs.lemmas.Grind.{common_steps}
use Rattle.gu_trace.proofs.day_totals.totals.Goals as goal

pub returns-in_err-append_positions-clause-unchanged : goal.returns-in_err-append_positions-clause-unchanged
returns-in_err-append_positions-clause-unchanged c = search rules

pub returns-in_err-append_fees-clause-unchanged : goal.returns-in_err-append_fees-clause-unchanged
returns-in_err-append_fees-clause-unchanged c = search rules

pub returns-in_err-append_fixed-clause-unchanged : goal.returns-in_err-append_fixed-clause-unchanged
returns-in_err-append_fixed-clause-unchanged c = search rules

pub returns-in_err-append_made-clause-unchanged : goal.returns-in_err-append_made-clause-unchanged
returns-in_err-append_made-clause-unchanged c = search rules

pub returns-clause-text : goal.returns-clause-text
returns-clause-text c = grind (arith, common_steps)

pub returns-clause-unchanged : goal.returns-clause-unchanged
returns-clause-unchanged c = search rules
