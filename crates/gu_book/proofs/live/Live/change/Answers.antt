use Rattle.gu_book.proofs.live.Live.change.Goals as goal
use Rattle.gu_book.proofs.{ByNumber.live_found, Vocabulary.{record_of, sym}}

pub returns-in-Ok : goal.returns-in-Ok
returns-in-Ok c =
    let made = record_of c.in-Ok.made in
    rw (← c.self.view_is)
    (sym (live_found c.self.inside.entries.now c.args.number made (rw c.in-Ok.is at c.look_up.ensures)))
