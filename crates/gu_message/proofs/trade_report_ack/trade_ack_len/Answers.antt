use Rattle.std.proofs.Common.{length, ap, arith}
use Rattle.gu_message.proofs.AckLengths.{accepted_trade_len, refused_report_len}
use Rattle.gu_message.proofs.trade_report_ack.trade_ack_len.Goals as goal

pub returns-in-Refused-clause-exact : goal.returns-in-Refused-clause-exact
returns-in-Refused-clause-exact c =
    omega (
      arith,
      refused_report_len c.args.id.now c.args.answer.now c.in-Refused.refusal c.in-Refused.is,
      ap length c.as_bytes-len.ensures.value,
      c.refusal_len.ensures.exact,
    )

pub returns-in-Accepted-clause-exact : goal.returns-in-Accepted-clause-exact
returns-in-Accepted-clause-exact c =
    let len = accepted_trade_len c.args.id.now c.args.answer.now c.in-Accepted.number c.in-Accepted.is in
    omega (arith, len, ap length c.as_bytes-len.ensures.value, c.entry_len.ensures.exact)
