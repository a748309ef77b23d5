use Rattle.std.proofs.Common.{arith}
use Rattle.gu_message.proofs.AckLengths.{accepted_trade_len, refused_report_len}
use Rattle.gu_message.proofs.trade_report_ack.put_trade_ack.Goals as goal

pub put_refused-requires : goal.put_refused-requires
put_refused-requires c =
    omega (arith, c.requires, refused_report_len c.args.id.now c.args.answer.now c.in-Refused.refusal c.in-Refused.is)

pub put_accepted-requires : goal.put_accepted-requires
put_accepted-requires c =
    omega (arith, c.requires, accepted_trade_len c.args.id.now c.args.answer.now c.in-Accepted.number c.in-Accepted.is)

pub returns-in-Refused-clause-end : goal.returns-in-Refused-clause-end
returns-in-Refused-clause-end c =
    omega (
      arith,
      c.put_refused.ensures.end,
      refused_report_len c.args.id.now c.args.answer.now c.in-Refused.refusal c.in-Refused.is,
    )

pub returns-in-Accepted-clause-end : goal.returns-in-Accepted-clause-end
returns-in-Accepted-clause-end c =
    omega (
      arith,
      c.put_accepted.ensures.end,
      accepted_trade_len c.args.id.now c.args.answer.now c.in-Accepted.number c.in-Accepted.is,
    )
