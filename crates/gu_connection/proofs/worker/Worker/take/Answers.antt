use Rattle.std.proofs.Common.{◌⊎◌, rules}
use Rattle.gu_connection.specs.Standing.{Standing, stands}
use Rattle.gu_connection.specs.Talks.{Acts, ActsInPart, DoesNothing, Enters}
use Rattle.gu_connection.proofs.Closing.{said_last, entered_last}
use Rattle.gu_connection.proofs.Standing.{SameReadings, moved, unchanged}
use Rattle.gu_connection.proofs.Talking.{passed, took, entered}
use Rattle.gu_connection.proofs.worker.Worker.take.Goals as goal

pub returns-in-Ok-Nothing-clause-takes : goal.returns-in-Ok-Nothing-clause-takes
returns-in-Ok-Nothing-clause-takes g c =
    let same : SameReadings c.args.connection.now c.next.new.self =
    record {
      book = c.next.ensures.book;
      told = c.next.ensures.told;
      looked = c.next.ensures.looked;
      behind = c.next.ensures.behind;
      tells = c.next.ensures.tells;
    } in
    let brings = rw c.in-Ok-Nothing.field-0-is at c.in-Ok-Nothing.ensures.brings in
    (brings.0, unchanged c.args.seat c.args.connection.now c.next.new.self brings.2 brings.1 c.next.ensures.out same)

pub returns-in-Ok-Garbled-clause-takes : goal.returns-in-Ok-Garbled-clause-takes
returns-in-Ok-Garbled-clause-takes g c =
    let same : SameReadings c.args.connection.now c.next.new.self =
    record {
      book = c.next.ensures.book;
      told = c.next.ensures.told;
      looked = c.next.ensures.looked;
      behind = c.next.ensures.behind;
      tells = c.next.ensures.tells;
    } in
    passed g.J.Job.opening (stands c.args.seat c.args.connection.now) (stands c.args.seat c.next.new.self)
    (rw c.in-Ok-Garbled.field-0-is at c.in-Ok-Garbled.ensures.brings)
    (moved c.args.seat c.args.connection.now c.next.new.self c.next.ensures.out same)

pub returns-in-Ok-clause-takes : goal.returns-in-Ok-clause-takes
returns-in-Ok-clause-takes g c =
    let same : SameReadings c.args.connection.now c.next.new.self =
    record {
      book = c.next.ensures.book;
      told = c.next.ensures.told;
      looked = c.next.ensures.looked;
      behind = c.next.ensures.behind;
      tells = c.next.ensures.tells;
    } in
    let acts : Acts g.J.Job.opening c.in-Ok-Message.actions (stands c.args.seat c.next.new.self)
    (stands c.act-seat.result.0 c.act-seat.new.connection) = search rules in
    took g.J.Job.opening c.in-Ok-Message.actions (stands c.args.seat c.args.connection.now)
    (stands c.args.seat c.next.new.self) (stands c.act-seat.result.0 c.act-seat.new.connection) (search rules)
    (moved c.args.seat c.args.connection.now c.next.new.self c.next.ensures.out same) acts

pub returns-in-Err-acted-clause-breaks : goal.returns-in-Err-acted-clause-breaks
returns-in-Err-acted-clause-breaks g c =
    let house = c.args.self.now.house.now.house in
    let same : SameReadings c.args.connection.now c.next.new.self =
    record {
      book = c.next.ensures.book;
      told = c.next.ensures.told;
      looked = c.next.ensures.looked;
      behind = c.next.ensures.behind;
      tells = c.next.ensures.tells;
    } in
    let next : Standing = stands c.args.seat c.next.new.self in
    let behind : Standing = stands c.act-seat.result.0 c.act-seat.new.connection in
    let parts : DoesNothing next behind
    ⊎ ActsInPart house g.J.Job.opening c.in-Ok-Message.actions next behind = search rules in
    said_last house g.J.Job.opening c.in-Ok-Message.actions (stands c.args.seat c.args.connection.now) next behind
    (search rules) (moved c.args.seat c.args.connection.now c.next.new.self c.next.ensures.out same) parts

pub returns-in-Ok-entered-clause-takes : goal.returns-in-Ok-entered-clause-takes
returns-in-Ok-entered-clause-takes g c =
    let same : SameReadings c.args.connection.now c.next.new.self =
    record {
      book = c.next.ensures.book;
      told = c.next.ensures.told;
      looked = c.next.ensures.looked;
      behind = c.next.ensures.behind;
      tells = c.next.ensures.tells;
    } in
    let enters : Enters g.J.Job.opening c.in-Ok-Logon.actions c.in-Ok-Logon.asked (stands c.args.seat c.next.new.self)
    (stands c.enter-seat.result.0 c.enter-seat.new.connection) = search rules in
    entered g.J.Job.opening c.in-Ok-Logon.actions c.in-Ok-Logon.asked (stands c.args.seat c.args.connection.now)
    (stands c.args.seat c.next.new.self) (stands c.enter-seat.result.0 c.enter-seat.new.connection) (search rules)
    (moved c.args.seat c.args.connection.now c.next.new.self c.next.ensures.out same) enters

pub returns-in-Err-entered-clause-breaks : goal.returns-in-Err-entered-clause-breaks
returns-in-Err-entered-clause-breaks g c =
    let house = c.args.self.now.house.now.house in
    let same : SameReadings c.args.connection.now c.next.new.self =
    record {
      book = c.next.ensures.book;
      told = c.next.ensures.told;
      looked = c.next.ensures.looked;
      behind = c.next.ensures.behind;
      tells = c.next.ensures.tells;
    } in
    let next : Standing = stands c.args.seat c.next.new.self in
    let behind : Standing = stands c.enter-seat.result.0 c.enter-seat.new.connection in
    let parts : DoesNothing next behind
    ⊎ ActsInPart house g.J.Job.opening c.in-Ok-Logon.actions next behind = search rules in
    entered_last house g.J.Job.opening c.in-Ok-Logon.actions c.in-Ok-Logon.asked
    (stands c.args.seat c.args.connection.now) next behind (search rules)
    (moved c.args.seat c.args.connection.now c.next.new.self c.next.ensures.out same) parts
