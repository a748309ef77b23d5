use Rattle.std.proofs.Common.{rules}
use Rattle.gu_connection.proofs.Standing.{begun_above}
use Rattle.gu_connection.proofs.worker.Worker.begin.Goals as goal

pub returns-in-Above-clause-begins : goal.returns-in-Above-clause-begins
returns-in-Above-clause-begins g c = (
  c.in-Above.number,
  search rules,
  c.bound-seat.ensures.looks,
  begun_above c.args.seat c.bound-seat.result.0 c.in-Above.number c.args.connection.now c.begin_above.new.self
      c.begin_above.ensures.book c.begin_above.ensures.session c.begin_above.ensures.feed c.begin_above.ensures.out
      c.begin_above.ensures.told c.begin_above.ensures.looked c.begin_above.ensures.behind
      c.begin_above.ensures.tells,
)
