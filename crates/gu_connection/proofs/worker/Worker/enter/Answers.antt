use Rattle.std.proofs.Common.{refl}
use Rattle.gu_connection.specs.Standing.{stands}
use Rattle.gu_connection.proofs.Closing.{sent_last, not_begun}
use Rattle.gu_connection.proofs.Standing.{SameReadings, said}
use Rattle.gu_connection.proofs.Talking.{begun}
use Rattle.gu_connection.proofs.worker.Worker.enter.Goals as goal

pub returns-in-Ok-clause-enters : goal.returns-in-Ok-clause-enters
returns-in-Ok-clause-enters g c =
    let same : SameReadings c.args.connection.now c.send.new.self =
    record {
      book = c.send.ensures.book;
      told = c.send.ensures.told;
      looked = c.send.ensures.looked;
      behind = c.send.ensures.behind;
      tells = c.send.ensures.tells;
    } in
    begun c.begin.result.1 g.J.Job.opening c.args.actions c.args.asked (stands c.args.seat c.args.connection.now)
    (stands c.args.seat c.send.new.self) (stands c.begin.result.0 c.begin.new.connection)
    (said c.args.seat c.args.actions c.args.connection.now c.send.new.self c.send.ensures.session c.send.ensures.feed
    c.in-Ok.ensures.out same) c.in-Ok.ensures.open c.begin.ensures.begins

pub returns-in-Ok-clause-err : goal.returns-in-Ok-clause-err
returns-in-Ok-clause-err g c =
    let same : SameReadings c.args.connection.now c.send.new.self =
    record {
      book = c.send.ensures.book;
      told = c.send.ensures.told;
      looked = c.send.ensures.looked;
      behind = c.send.ensures.behind;
      tells = c.send.ensures.tells;
    } in
    not_begun c.begin.result.1 c.args.self.now.house.now.house g.J.Job.opening c.args.actions
    (stands c.args.seat c.args.connection.now) (stands c.args.seat c.send.new.self)
    (stands c.begin.result.0 c.begin.new.connection)
    (said c.args.seat c.args.actions c.args.connection.now c.send.new.self c.send.ensures.session c.send.ensures.feed
    c.in-Ok.ensures.out same) c.begin.ensures.err c.begin.ensures.looks

pub returns-clause-err : goal.returns-clause-err
returns-clause-err g c =
    sent_last c.args.self.now.house.now.house g.J.Job.opening c.args.actions
    (stands c.args.seat c.args.connection.now) (stands c.args.seat c.send.new.self) refl c.in-Err.ensures.err
