use Rattle.std.proofs.Common.{◌≡◌, ◌∙◌, ℕ, ap, arith, drop, sum}
use Rattle.gu_codec.proofs.Summing.{sum_cut, sum_on}
use Rattle.gu_codec.proofs.sums.checksum.Goals as goal

pub loop-i-preserved : goal.loop-i-preserved
loop-i-preserved c =
    record {
      within = omega arith;
      len = c.added-sums.ensures.len;
      sum = omega (arith, c.added-sums.ensures.sum, c.loop-i.invariant.sum, sum_on c.loop-i.i 16 c.args.bytes.now);
    }

pub returns : goal.returns
returns c =
    let bytes = c.args.bytes.now in
    let i = c.loop-i.i in
    let rest : sum c.last_of.result ≡ sum (drop i bytes) =
    c.last_of.ensures.sum ∙ ap (λ (n : ℕ). sum (drop n bytes)) (omega arith) in
    omega (arith, c.total.ensures, c.added.ensures.sum, c.loop-i.invariant.sum, rest, sum_cut i bytes)
