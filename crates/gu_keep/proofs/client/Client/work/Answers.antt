use Rattle.std.proofs.Common.{◌≡◌, true, false, sym, ◌∙◌}
use Rattle.gu_keep.proofs.Stillness.{turned_still}
use Rattle.gu_keep.proofs.client.Client.work.Goals.{in-Ok, in-Err}
use Rattle.gu_keep.proofs.client.Client.work.Goals as goal

pub returns-clause-still : goal.returns-clause-still
returns-clause-still g c = λ open_still untold.
    let stays : c.match-turned.self.ended ≡ false = sym c.note_end.ensures.ended ∙ open_still in
    elim c.match-turned.branch [
      | in-Ok w ↦
          let kept : c.note_end.new.self.connection ≡ w.ends-self.new.self.connection =
          rw w.self-is at c.note_end.ensures.connection in
          let ended : w.ends-self.result ≡ false = rw w.self-is at stays in
          turned_still g.J.Job.opening c.lend.new.self.left _ _ w.in-Ok.left c.args.seat c.turn-seat.result.0
          c.lend.new.self.connection c.args.self.now.connection c.turn-seat.new.connection
          c.note_end.new.self.connection (c.lend.ensures.connection ∙ c.begin_turn.ensures.connection)
          ((kept ∙ w.ends-self.ensures.open ended) ∙ c.take_back.ensures.connection)
          (rw w.in-Ok.is at c.turn-seat.ensures.turns) untold
      | in-Err w ↦ let e : true ≡ false = rw w.self-is at stays in absurd (cc e)
    ]
