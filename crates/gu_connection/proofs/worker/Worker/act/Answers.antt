use Rattle.std.proofs.Common.{rules, OnOk, OnErr, Some, refl}
use Rattle.gu_connection.specs.Standing.{Standing, stands}
use Rattle.gu_connection.specs.Asking.{AsksAtMost}
use Rattle.gu_connection.specs.Talks.{Calls}
use Rattle.gu_connection.proofs.Closing.{sent_last, unanswered}
use Rattle.gu_connection.proofs.Standing.{SameReadings, said}
use Rattle.gu_connection.proofs.Talking.{acted, sent_on}
use Rattle.gu_connection.proofs.worker.Worker.act.Goals as goal

pub returns-in-Some-clause-acts : goal.returns-in-Some-clause-acts
returns-in-Some-clause-acts g c =
    let same : SameReadings c.args.connection.now c.send.new.self =
    record {
      book = c.send.ensures.book;
      told = c.send.ensures.told;
      looked = c.send.ensures.looked;
      behind = c.send.ensures.behind;
      tells = c.send.ensures.tells;
    } in
    let sent : Standing = stands c.args.seat c.send.new.self in
    let behind : Standing = stands c.call.result.0 c.call.new.connection in
    let calls : OnOk c.call.result.1 (Calls g.J.Job.opening c.in-Some.id c.in-Some.command sent behind) =
    search rules in
    acted c.call.result.1 g.J.Job.opening c.args.actions c.in-Some.id c.in-Some.command
    (stands c.args.seat c.args.connection.now) sent behind (search rules)
    (said c.args.seat c.args.actions c.args.connection.now c.send.new.self c.send.ensures.session c.send.ensures.feed
    c.in-Ok.ensures.out same) c.in-Ok.ensures.open calls

pub returns-clause-acts : goal.returns-clause-acts
returns-clause-acts g c =
    let same : SameReadings c.args.connection.now c.send.new.self =
    record {
      book = c.send.ensures.book;
      told = c.send.ensures.told;
      looked = c.send.ensures.looked;
      behind = c.send.ensures.behind;
      tells = c.send.ensures.tells;
    } in
    sent_on g.J.Job.opening c.args.actions (stands c.args.seat c.args.connection.now)
    (stands c.args.seat c.send.new.self) c.in-None.is
    (said c.args.seat c.args.actions c.args.connection.now c.send.new.self c.send.ensures.session c.send.ensures.feed
    c.in-Ok.ensures.out same) c.in-Ok.ensures.open

pub returns-in_default-clause-err : goal.returns-in_default-clause-err
returns-in_default-clause-err g c =
    sent_last c.args.self.now.house.now.house g.J.Job.opening c.args.actions
    (stands c.args.seat c.args.connection.now) (stands c.args.seat c.send.new.self) refl c.in_default.ensures.err

pub returns-in-Some-clause-err : goal.returns-in-Some-clause-err
returns-in-Some-clause-err g c =
    let same : SameReadings c.args.connection.now c.send.new.self =
    record {
      book = c.send.ensures.book;
      told = c.send.ensures.told;
      looked = c.send.ensures.looked;
      behind = c.send.ensures.behind;
      tells = c.send.ensures.tells;
    } in
    let asks : OnErr c.call.result.1 (AsksAtMost g.J.Job.opening c.send.new.self.session.link.firm
    (Some (c.in-Some.id, c.in-Some.command)) c.args.seat c.call.result.0) =
    search rules in
    unanswered c.call.result.1 c.args.self.now.house.now.house g.J.Job.opening c.args.actions c.in-Some.id
    c.in-Some.command (stands c.args.seat c.args.connection.now) (stands c.args.seat c.send.new.self)
    (stands c.call.result.0 c.call.new.connection) (search rules)
    (said c.args.seat c.args.actions c.args.connection.now c.send.new.self c.send.ensures.session c.send.ensures.feed
    c.in-Ok.ensures.out same) c.call.ensures.err asks
