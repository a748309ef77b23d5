use Rattle.std.proofs.Common.{◌≡◌, ◌+◌, ◌-◌, ◌^◌, ℕ, arith, ap, sym, ◌∙◌, pow-suc, suc, length, get_or, eqb}
use Rattle.gu_codec.specs.MarkBits.{soh_bit}
use Rattle.gu_codec.proofs.Marking.{pushed, bool_bit}
use Rattle.gu_codec.proofs.marks.marks_of_few.Goals as goal

pub loop-i-preserved : goal.loop-i-preserved
loop-i-preserved c =
    let bytes = c.args.bytes.now in
    let i = c.loop-i.i in
    let b = bool_bit (eqb (get_or bytes (i - 1) 0) 1) in
    let more : suc (length bytes - i) ≡ length bytes - (i - 1) = omega arith in
    let same : suc (i - 1) ≡ i = omega arith in
    record {
      within = omega arith;
      small = omega (arith, b.0, pow-suc 2 (length bytes - i), ap (λ (n : ℕ). 2 ^ n) more, c.loop-i.invariant.small);
      bits = pushed bytes (i - 1) _ c.loop-i.marks b.0 b.1
          (λ j. c.loop-i.invariant.bits j ∙ ap (λ (n : ℕ). soh_bit bytes (n + j)) (sym same));
    }
