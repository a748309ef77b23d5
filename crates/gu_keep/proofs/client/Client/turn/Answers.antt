use Rattle.std.proofs.Common.{◌≡◌, [], false, rules, ◌∙◌}
use Rattle.gu_keep.proofs.Stillness.{stays}
use Rattle.gu_keep.proofs.client.Client.turn.Goals as goal

pub returns-then-not-tells-clause-turns : goal.returns-then-not-tells-clause-turns
returns-then-not-tells-clause-turns g c =
    let none : c.give_back.new.self.connection.out.items ≡ [] = search rules in
    let goes_on : c.work-seat.new.self.ended ≡ false = search rules in
    let untold : c.work-seat.new.self.connection.tells ≡ false = search rules in
    stays g.J.Job.opening c.args.self.now.connection c.give_back.new.self.connection c.begin_turn.new.self
    c.work-seat.new.self.connection c.args.self.now.outbox c.work-seat.new.self.outbox c.hold_still.new.self.outbox
    c.work-seat.result.seen none c.give_back.ensures.connection c.begin_turn.ensures
    (c.work-seat.ensures.still goes_on untold) (c.work-seat.ensures.same ∙ c.give_back.ensures.outbox)
    c.hold_still.ensures
