use Rattle.std.proofs.Common.{length, ap, arith, length-append}
use Rattle.gu_base.specs.Texts.{words_of, tail_of}
use Rattle.gu_message.proofs.bodies.refusal_len.Goals as goal

pub returns-clause-exact : goal.returns-clause-exact
returns-clause-exact c =
    omega (
      arith,
      length-append (words_of c.args.refusal.now) (tail_of c.args.refusal.now),
      ap length c.words.ensures.value,
      c.named_len.ensures.exact,
    )
