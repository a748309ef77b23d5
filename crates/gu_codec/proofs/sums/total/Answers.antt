use Rattle.std.proofs.Common.{ℕ, ◌%◌, ◌∙◌, ap, arith}
use Rattle.gu_codec.proofs.Summing.{folded}
use Rattle.gu_codec.proofs.sums.total.Goals as goal

pub returns : goal.returns
returns c = folded 0 c.args.v (omega arith) ∙ ap (λ (n : ℕ). n % 256) (omega arith)
