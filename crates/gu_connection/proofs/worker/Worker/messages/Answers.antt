use Rattle.std.proofs.Common.{refl, arith, subst, Bool}
use Rattle.std.specs.Prelude.{is_some}
use Rattle.gu_desk.proofs.Moves.{begins_with_all}
use Rattle.gu_connection.specs.Standing.{Standing, stands}
use Rattle.gu_connection.specs.Talks.{TakesNext, Ticks}
use Rattle.gu_connection.proofs.Closing.{closed}
use Rattle.gu_connection.proofs.Talking.{goes_on, rested, unspent_read}
use Rattle.gu_connection.proofs.worker.Worker.messages.Goals as goal

pub returns-then-waiting-gt-MOST_WAITING-clause-takes : goal.returns-then-waiting-gt-MOST_WAITING-clause-takes
returns-then-waiting-gt-MOST_WAITING-clause-takes g c = (
  c.loop-count.invariant.talks.0,
  stands c.loop-count.seat c.loop-count.connection,
  c.loop-count.invariant.talks.1,
  (omega arith, refl),
)

pub returns-then-is_late-clause-takes : goal.returns-then-is_late-clause-takes
returns-then-is_late-clause-takes g c = (
  c.loop-count.invariant.talks.0,
  stands c.loop-count.seat c.loop-count.connection,
  c.loop-count.invariant.talks.1,
  refl,
)

pub returns-then-is_over-clause-takes : goal.returns-then-is_over-clause-takes
returns-then-is_over-clause-takes g c = (
  c.loop-count.invariant.talks.0,
  stands c.loop-count.seat c.loop-count.connection,
  c.loop-count.invariant.talks.1,
  refl,
)

pub returns-clause-takes : goal.returns-clause-takes
returns-clause-takes g c = (
  c.loop-count.invariant.talks.0,
  stands c.loop-count.seat c.loop-count.connection,
  c.loop-count.invariant.talks.1,
  refl,
)

pub returns-then-not-some-clause-takes : goal.returns-then-not-some-clause-takes
returns-then-not-some-clause-takes g c =
    let last : Standing = stands c.loop-count.seat c.loop-count.connection in
    let next : Standing = stands c.take-back.result.0 c.take-back.new.connection in
    let at : Bool → Type 0 = λ b. TakesNext g.J.Job.opening b last next in
    let takes : at c.in-Ok.some = rw c.in-Ok.is at c.take-back.ensures.takes in
    rested c.tick.result.1 g.J.Job.opening (stands c.args.seat c.args.connection.now) last next
    (stands c.tick.result.0 c.tick.new.connection) c.args.left c.requires c.loop-count.invariant.talks
    (subst at c.if-not-some.true takes) c.tick.ensures.ticks

pub loop-count-preserved : goal.loop-count-preserved
loop-count-preserved g c =
    let last : Standing = stands c.loop-count.seat c.loop-count.connection in
    let next : Standing = stands c.take-back.result.0 c.take-back.new.connection in
    let at : Bool → Type 0 = λ b. TakesNext g.J.Job.opening b last next in
    let takes : at c.in-Ok.some = rw c.in-Ok.is at c.take-back.ensures.takes in
    record {
      later = begins_with_all _ c.loop-count.seat.seen c.args.seat.seen c.take-back.ensures.later
          c.loop-count.invariant.later;
      talks = goes_on g.J.Job.opening (stands c.args.seat c.args.connection.now) last next c.loop-count.invariant.talks
          (subst at c.if-not-some.false takes);
    }

pub returns-in_default-clause-closes : goal.returns-in_default-clause-closes
returns-in_default-clause-closes g c = (
  c.loop-count.invariant.talks.0,
  stands c.loop-count.seat c.loop-count.connection,
  c.loop-count.invariant.talks.1,
  rw c.in_default.is at c.take-back.ensures.breaks,
)

pub returns-then-not-some-clause-closes : goal.returns-then-not-some-clause-closes
returns-then-not-some-clause-closes g c =
    let last : Standing = stands c.loop-count.seat c.loop-count.connection in
    let next : Standing = stands c.take-back.result.0 c.take-back.new.connection in
    let at : Bool → Type 0 = λ b. TakesNext g.J.Job.opening b last next in
    let takes : at c.in-Ok.some = rw c.in-Ok.is at c.take-back.ensures.takes in
    closed c.tick.result.1 c.args.self.now.house.now.house g.J.Job.opening
    (stands c.args.seat c.args.connection.now) last next (stands c.tick.result.0 c.tick.new.connection)
    c.loop-count.invariant.talks (subst at c.if-not-some.true takes).1 c.tick.ensures.breaks

pub returns-then-not-some-clause-unspent : goal.returns-then-not-some-clause-unspent
returns-then-not-some-clause-unspent g c =
    let ticks : Type 0 =
    Ticks (stands c.take-back.result.0 c.take-back.new.connection) (stands c.tick.result.0 c.tick.new.connection) in
    unspent_read c.tick.result.1 (is_some c.args.span) c.args.left ticks c.requires c.tick.ensures.ticks
