use Rattle.std.proofs.Common.{rules}
use Rattle.gu_connection.specs.Standing.{stands}
use Rattle.gu_connection.proofs.Closing.{untold}
use Rattle.gu_connection.proofs.Talking.{idle_unnamed, idle_named}
use Rattle.gu_connection.proofs.worker.Worker.idle.Goals as goal

pub returns-in_default-firm-clause-idles : goal.returns-in_default-firm-clause-idles
returns-in_default-firm-clause-idles g c =
    let ticks = rw c.in-Ok.is at c.tick-seat.ensures.ticks in (
      ticks.0,
      idle_unnamed g.J.Job.opening (stands c.args.seat c.args.connection.now)
          (stands c.tick-seat.result.0 c.tick-seat.new.connection) ticks.1 (search rules),
    )

pub returns-in-Ok-told-clause-idles : goal.returns-in-Ok-told-clause-idles
returns-in-Ok-told-clause-idles g c =
    let ticks = rw c.in-Ok.is at c.tick-seat.ensures.ticks in (
      ticks.0,
      idle_named g.J.Job.opening c.in-Some.firm (stands c.args.seat c.args.connection.now)
          (stands c.tick-seat.result.0 c.tick-seat.new.connection)
          (stands c.reply-seat.result.0 c.reply-seat.new.connection) ticks.1 (search rules)
          (c.reply-seat.ensures.looks, c.reply-seat.ensures.feed, rw c.in-Ok-told.is at c.reply-seat.ensures.replies),
    )

pub returns-in-Err-clause-breaks : goal.returns-in-Err-clause-breaks
returns-in-Err-clause-breaks g c =
    let ticks = rw c.in-Ok.is at c.tick-seat.ensures.ticks in
    untold c.args.self.now.house.now.house g.J.Job.opening (stands c.args.seat c.args.connection.now)
    (stands c.tick-seat.result.0 c.tick-seat.new.connection)
    (stands c.reply-seat.result.0 c.reply-seat.new.connection) ticks.1 c.reply-seat.ensures.looks
    (rw c.in-Err.is at c.reply-seat.ensures.err)
