use Rattle.std.proofs.Common.{◌∙◌, arith}
use Rattle.std.proofs.lemmas.Simd.{length-zip2}
use Rattle.gu_codec.proofs.Summing.{sum_added, add_bytes}
use Rattle.gu_codec.proofs.sums.added.Goals as goal

pub returns-clause-len : goal.returns-clause-len
returns-clause-len c = length-zip2 add_bytes c.args.a c.args.b (omega arith) ∙ c.requires.a

pub returns-clause-sum : goal.returns-clause-sum
returns-clause-sum c = sum_added c.args.a c.args.b (omega arith)
