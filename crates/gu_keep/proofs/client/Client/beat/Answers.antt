use Rattle.std.proofs.Common.{◌≡◌, [], rules, ◌∙◌}
use Rattle.gu_keep.proofs.Stillness.{beats}
use Rattle.gu_keep.proofs.client.Client.beat.Goals as goal

pub returns : goal.returns
returns g c =
    let none : c.args.self.now.connection.out.items ≡ [] = search rules in
    beats c.args.worker.now.house.now.house g.J.Job.opening c.args.self.now.connection c.tick.new.self.connection
    c.note_end.new.self.connection c.args.self.now.outbox c.note_end.new.self.outbox c.hold_still.new.self.outbox
    none c.tick.ensures.beat c.note_end.ensures.connection (c.note_end.ensures.outbox ∙ c.tick.ensures.same)
    c.hold_still.ensures
