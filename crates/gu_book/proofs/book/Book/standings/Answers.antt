use Rattle.gu_book.proofs.book.Book.standings.Goals as goal
use Rattle.gu_book.proofs.{Leaves.live_rises, Vocabulary.{arith, legal_from_replay, live, rises_later}}

pub returns-clause-read : goal.returns-clause-read
returns-clause-read c =
    let t = c.self.inside.house in
    let h = c.self.inside.entries.items in
    let kept = c.self.invariant.0.kept in
    rw (← c.self.view_is)
    (c.first_standing-read.ensures.first t (live h) (rises_later 0 1 (live h) (omega arith) (live_rises h))
    (legal_from_replay t (live h) kept.replayed) c.self.invariant.0.state.filed c.self.invariant.0.state.dealt)
