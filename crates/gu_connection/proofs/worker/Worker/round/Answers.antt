use Rattle.gu_connection.specs.Conversing.{Talk, talk_of}
use Rattle.gu_connection.specs.Standing.{stands}
use Rattle.gu_connection.proofs.Closing.{closed_by, cut_short}
use Rattle.gu_connection.proofs.Conversing.{rounded}
use Rattle.gu_connection.proofs.Standing.{SameReadings, written}
use Rattle.gu_connection.proofs.worker.Worker.round.Goals as goal

pub returns-in-Ok-clause-rounds : goal.returns-in-Ok-clause-rounds
returns-in-Ok-clause-rounds g c =
    let same : SameReadings c.turn-seat.new.connection c.write.new.self =
    record {
      book = c.write.ensures.book;
      told = c.write.ensures.told;
      looked = c.write.ensures.looked;
      behind = c.write.ensures.behind;
      tells = c.write.ensures.tells;
    } in
    let before : Talk =
    talk_of c.args.seat c.args.connection.now (g.S.Read.remaining c.args.reader.now)
    (g.W.Write.contents c.args.writer.now) c.args.left in
    rounded c.turn-seat.result.1 g.J.Job.opening before (g.S.Read.remaining c.turn-seat.new.stream)
    (g.W.Write.contents c.write.new.to) (stands c.turn-seat.result.0 c.turn-seat.new.connection)
    (stands c.turn-seat.result.0 c.write.new.self) c.in-Ok.ensures.ok
    (written c.turn-seat.result.0 c.turn-seat.new.connection c.write.new.self c.write.ensures.session
    c.write.ensures.feed c.write.ensures.out same) c.turn-seat.ensures.turns

pub returns-in-Ok-clause-closes : goal.returns-in-Ok-clause-closes
returns-in-Ok-clause-closes g c =
    let before : Talk =
    talk_of c.args.seat c.args.connection.now (g.S.Read.remaining c.args.reader.now)
    (g.W.Write.contents c.args.writer.now) c.args.left in
    closed_by c.turn-seat.result.1 c.args.self.now.house.now.house g.J.Job.opening before
    (g.S.Read.remaining c.turn-seat.new.stream) (g.W.Write.contents c.write.new.to)
    (stands c.turn-seat.result.0 c.turn-seat.new.connection) c.in-Ok.ensures.ok c.turn-seat.ensures.closes

pub returns-in-Err-clause-closes : goal.returns-in-Err-clause-closes
returns-in-Err-clause-closes g c =
    let before : Talk =
    talk_of c.args.seat c.args.connection.now (g.S.Read.remaining c.args.reader.now)
    (g.W.Write.contents c.args.writer.now) c.args.left in
    cut_short c.turn-seat.result.1 c.args.self.now.house.now.house g.J.Job.opening before
    (g.S.Read.remaining c.turn-seat.new.stream) (g.W.Write.contents c.write.new.to)
    (stands c.turn-seat.result.0 c.turn-seat.new.connection) c.in-Err.ensures.err c.turn-seat.ensures.turns
    c.turn-seat.ensures.closes
