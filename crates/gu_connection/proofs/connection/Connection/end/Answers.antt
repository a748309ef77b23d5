use Rattle.gu_connection.proofs.Closing.{ended}
use Rattle.gu_connection.proofs.connection.Connection.end.Goals as goal

pub returns-clause-out : goal.returns-clause-out
returns-clause-out g c =
    ended c.quiet.result c.args.self.now.session c.quiet.new.self.session c.args.self.now.out.items
    c.quiet.new.self.out.items c.quiet.ensures.ok c.quiet.ensures.err
