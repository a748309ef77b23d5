use Rattle.std.proofs.Common.{rules, arith}
use Rattle.std.proofs.lemmas.Grind.{common_steps}
use Rattle.gu_codec.proofs.writing.lengthen.Goals as goal

pub returns-in_err-grow-clause-full : goal.returns-in_err-grow-clause-full
returns-in_err-grow-clause-full c = search rules

pub returns-clause-ok : goal.returns-clause-ok
returns-clause-ok c = grind (arith, common_steps)

pub returns-clause-len : goal.returns-clause-len
returns-clause-len c = search rules
