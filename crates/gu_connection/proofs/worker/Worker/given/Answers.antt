use Rattle.std.proofs.Common.{zero, inl, refl}
use Rattle.gu_connection.specs.Standing.{stands, comes}
use Rattle.gu_connection.proofs.Closing.{come_last}
use Rattle.gu_connection.proofs.Standing.{SameReadings, came}
use Rattle.gu_connection.proofs.Talking.{come}
use Rattle.gu_connection.proofs.worker.Worker.given.Goals as goal

pub returns-in-Ok-clause-takes : goal.returns-in-Ok-clause-takes
returns-in-Ok-clause-takes g c =
    let same : SameReadings c.args.connection.now c.push.new.self =
    record {
      book = c.push.ensures.book;
      told = c.push.ensures.told;
      looked = c.push.ensures.looked;
      behind = c.push.ensures.behind;
      tells = c.push.ensures.tells;
    } in
    come c.messages.result.1 g.J.Job.opening c.args.piece.now (stands c.args.seat c.args.connection.now)
    (stands c.args.seat c.push.new.self) (stands c.messages.result.0 c.messages.new.connection)
    (came c.args.seat c.args.piece.now c.args.connection.now c.push.new.self c.push.ensures.session
    c.in-Ok.ensures.ok c.push.ensures.out same) c.messages.ensures.takes

pub returns-in-Ok-clause-closes : goal.returns-in-Ok-clause-closes
returns-in-Ok-clause-closes g c =
    let same : SameReadings c.args.connection.now c.push.new.self =
    record {
      book = c.push.ensures.book;
      told = c.push.ensures.told;
      looked = c.push.ensures.looked;
      behind = c.push.ensures.behind;
      tells = c.push.ensures.tells;
    } in
    come_last c.messages.result.1 c.args.self.now.house.now.house g.J.Job.opening c.args.piece.now
    (stands c.args.seat c.args.connection.now) (stands c.args.seat c.push.new.self)
    (stands c.messages.result.0 c.messages.new.connection)
    (came c.args.seat c.args.piece.now c.args.connection.now c.push.new.self c.push.ensures.session
    c.in-Ok.ensures.ok c.push.ensures.out same) c.messages.ensures.closes

pub returns-in-Err-clause-closes : goal.returns-in-Err-clause-closes
returns-in-Err-clause-closes g c =
    (zero, comes c.args.piece.now (stands c.args.seat c.args.connection.now), refl, inl (refl, c.push.ensures.out))
