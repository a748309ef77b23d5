use Rattle.std.proofs.Common.{arith}
use Rattle.std.proofs.lemmas.Bool.{and_parts, leb-true}
use Rattle.gu_message.proofs.UsualTimes.{usual}
use Rattle.gu_message.proofs.timestamp.is_usual.Goals as goal

pub returns : goal.returns
returns c last =
    let both = and_parts c.are_between-front.result c.are_between-back.result c.if-not-front-back.false in
    let hour = leb-true c.two_at-hour.result _ last in
    usual c.args.text.now c.requires (c.are_between-front.ensures both.0) (c.are_between-back.ensures both.1)
    (omega (arith, c.two_at-month.ensures)) (omega (arith, c.two_at-month.ensures))
    (omega (arith, c.two_at-day.ensures)) (omega (arith, c.two_at-day.ensures)) (omega (arith, c.two_at-hour.ensures))
