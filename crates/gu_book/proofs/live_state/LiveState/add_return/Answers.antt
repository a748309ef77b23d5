use Rattle.gu_book.proofs.live_state.LiveState.add_return.Goals as goal
use Rattle.gu_book.proofs
use proofs.ChangesKept.{gives_node_back, idle_stands, next_of}
use proofs.{Filed.{due_same, follows_same}, LiveStates.state_apart, OnePlace.next_there, Vocabulary.refl}

pub give_back-requires-clause-due : goal.give_back-requires-clause-due
give_back-requires-clause-due c =
    due_same _ _ _ c.in_ok-ready.ensures.same (_, _, next_of c.requires.can.follows)

pub give_back-requires-clause-there : goal.give_back-requires-clause-there
give_back-requires-clause-there c =
    let can = c.requires.can in
    next_there (next_of can.follows) _ c.in_ok-ready.ensures.same _ _ can.named can.there

pub returns-clause-added : goal.returns-clause-added
returns-clause-added c =
    let can = c.requires.can.follows in
    let back = gives_node_back _ _ _ _ _ _ c.requires.back.1 in
    let filed = follows_same _ _ _ _ c.in_ok-ready.ensures.same c.give_back.ensures.follows _ _ (next_of can) in
    state_apart can _ refl refl filed c.give_back.ensures.last back.idle.costs (idle_stands can back.idle)
    back.apart
