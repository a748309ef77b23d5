use Rattle.std.proofs.Common.{rules, arith}
use Rattle.std.proofs.lemmas.Grind.{common_steps}
use Rattle.gu_message.proofs.session_reject.append_fault.Goals as goal

pub append_field-requires : goal.append_field-requires
append_field-requires c = search rules

pub append_number_field-requires-3 : goal.append_number_field-requires-3
append_number_field-requires-3 c = search rules

pub returns-clause-items : goal.returns-clause-items
returns-clause-items c = grind (arith, common_steps)

pub returns-clause-len : goal.returns-clause-len
returns-clause-len c = search rules
