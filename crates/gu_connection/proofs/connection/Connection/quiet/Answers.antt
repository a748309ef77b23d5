use Rattle.gu_connection.proofs.Closing.{shuts}
use Rattle.gu_connection.proofs.Turning.{speaks}
use Rattle.gu_connection.proofs.connection.Connection.quiet.Goals as goal

pub returns-in-Ok-clause-ok : goal.returns-in-Ok-clause-ok
returns-in-Ok-clause-ok g c =
    speaks c.send.result c.args.event c.args.self.now.session c.step.new.session c.send.new.self.session
    c.args.self.now.out.items c.send.new.self.out.items c.in-Ok.actions c.send.ensures.session c.in-Ok.ensures.ok
    c.send.ensures.out c.send.ensures.open

pub returns-in-Ok-clause-err : goal.returns-in-Ok-clause-err
returns-in-Ok-clause-err g c =
    shuts c.send.result c.args.event c.args.self.now.session c.step.new.session c.args.self.now.out.items
    c.send.new.self.out.items c.in-Ok.actions c.in-Ok.ensures.ok c.send.ensures.err
