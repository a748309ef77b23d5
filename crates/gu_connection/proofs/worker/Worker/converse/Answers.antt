use Rattle.std.proofs.Common.{refl, ap}
use Rattle.gu_connection.specs.Conversing.{Talk, Ending, talk_of}
use Rattle.gu_connection.specs.declared.connection.Connection.{Connection}
use Rattle.gu_connection.specs.declared.worker.Left.TheVariants.{Nothing}
use Rattle.gu_connection.proofs.Conversing.{goes_round, stopped, ended_by}
use Rattle.gu_connection.proofs.worker.Worker.converse.Goals as goal

-- the round closes the connection
pub returns-in_default : goal.returns-in_default
returns-in_default g c =
    let first : Talk =
    talk_of c.args.seat c.args.connection.now (g.S.Read.remaining c.args.reader.now)
    (g.W.Write.contents c.args.writer.now) Nothing in
    let before : Talk =
    talk_of c.loop.seat c.loop.connection (g.S.Read.remaining c.loop.reader) (g.W.Write.contents c.loop.writer)
    c.loop.left in
    let behind : Ending = record {
      seat = c.round-back.result.0;
      unread = g.S.Read.remaining c.round-back.new.reader;
      written = g.W.Write.contents c.round-back.new.writer;
    } in
    ended_by c.args.self.now.house.now.house g.J.Job.opening first before behind c.loop.invariant
    (rw c.in_default.is at c.round-back.ensures.closes)

-- no firm has logged on in time
pub returns-in_default-expire : goal.returns-in_default-expire
returns-in_default-expire g c =
    let first : Talk =
    talk_of c.args.seat c.args.connection.now (g.S.Read.remaining c.args.reader.now)
    (g.W.Write.contents c.args.writer.now) Nothing in
    let before : Talk =
    talk_of c.loop.seat c.loop.connection (g.S.Read.remaining c.loop.reader) (g.W.Write.contents c.loop.writer)
    c.loop.left in
    let last : Talk =
    talk_of c.round-back.result.0 c.round-back.new.connection (g.S.Read.remaining c.round-back.new.reader)
    (g.W.Write.contents c.round-back.new.writer) c.in-Ok.rest in
    stopped c.args.self.now.house.now.house g.J.Job.opening first last
    (goes_round g.J.Job.opening first before last last c.loop.invariant
    (rw c.in-Ok.is at c.round-back.ensures.rounds) refl)

-- the pace can't be set
pub returns-in_default-keep_pace : goal.returns-in_default-keep_pace
returns-in_default-keep_pace g c =
    let first : Talk =
    talk_of c.args.seat c.args.connection.now (g.S.Read.remaining c.args.reader.now)
    (g.W.Write.contents c.args.writer.now) Nothing in
    let before : Talk =
    talk_of c.loop.seat c.loop.connection (g.S.Read.remaining c.loop.reader) (g.W.Write.contents c.loop.writer)
    c.loop.left in
    let last : Talk =
    talk_of c.round-back.result.0 c.round-back.new.connection (g.S.Read.remaining c.round-back.new.reader)
    (g.W.Write.contents c.round-back.new.writer) c.in-Ok.rest in
    stopped c.args.self.now.house.now.house g.J.Job.opening first last
    (goes_round g.J.Job.opening first before last last c.loop.invariant
    (rw c.in-Ok.is at c.round-back.ensures.rounds) refl)

-- one round more
pub loop-preserved : goal.loop-preserved
loop-preserved g c =
    let first : Talk =
    talk_of c.args.seat c.args.connection.now (g.S.Read.remaining c.args.reader.now)
    (g.W.Write.contents c.args.writer.now) Nothing in
    let before : Talk =
    talk_of c.loop.seat c.loop.connection (g.S.Read.remaining c.loop.reader) (g.W.Write.contents c.loop.writer)
    c.loop.left in
    let at : Connection → Talk =
    λ b. talk_of c.round-back.result.0 b (g.S.Read.remaining c.round-back.new.reader)
    (g.W.Write.contents c.round-back.new.writer) c.in-Ok.rest in
    goes_round g.J.Job.opening first before (at c.round-back.new.connection) (at c.expire.new.connection)
    c.loop.invariant (rw c.in-Ok.is at c.round-back.ensures.rounds) (ap at c.in-Ok-expire.ensures.ok)
