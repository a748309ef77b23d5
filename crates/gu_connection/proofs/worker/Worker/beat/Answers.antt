use Rattle.std.proofs.Common.{refl, sym, subst}
use Rattle.gu_connection.specs.Standing.{stands}
use Rattle.gu_connection.specs.Talks.{Ticks}
use Rattle.gu_connection.specs.declared.connection.Connection.{Connection}
use Rattle.gu_connection.proofs.Closing.{ticked_last, timed_out}
use Rattle.gu_connection.proofs.Standing.{SameReadings, spoken}
use Rattle.gu_connection.proofs.worker.Worker.beat.Goals as goal

pub returns-in-Ok-keep_time-clause-ticks : goal.returns-in-Ok-keep_time-clause-ticks
returns-in-Ok-keep_time-clause-ticks g c =
    let same : SameReadings c.args.connection.now c.quiet.new.self =
    record {
      book = c.quiet.ensures.book;
      told = c.quiet.ensures.told;
      looked = c.quiet.ensures.looked;
      behind = c.quiet.ensures.behind;
      tells = c.quiet.ensures.tells;
    } in λ seat.
    let at : Connection → Type 0 = λ k. Ticks (stands seat c.args.connection.now) (stands seat k) in
    subst at (sym c.in-Ok-keep_time.ensures.ok)
    (c.in-Ok.ensures.ok, spoken seat c.args.connection.now c.quiet.new.self c.quiet.ensures.feed same)

pub returns-in-Err-keep_time-clause-breaks : goal.returns-in-Err-keep_time-clause-breaks
returns-in-Err-keep_time-clause-breaks g c = λ seat.
    timed_out c.args.self.now.house.now.house g.J.Job.opening (stands seat c.args.connection.now)
    (stands seat c.quiet.new.self) (stands seat c.keep_time.new.connection) refl c.in-Ok.ensures.ok
    c.in-Err-keep_time.ensures.err

pub returns-in-Err-clause-breaks : goal.returns-in-Err-clause-breaks
returns-in-Err-clause-breaks g c = λ seat.
    ticked_last c.args.self.now.house.now.house g.J.Job.opening (stands seat c.args.connection.now)
    (stands seat c.quiet.new.self) refl c.in-Err.ensures.err
