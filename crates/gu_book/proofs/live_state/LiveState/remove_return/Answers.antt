use Rattle.gu_book.proofs.live_state.LiveState.remove_return.Goals as goal
use Rattle.gu_book.proofs
use proofs.AllShown.{undone_of_trees, undone_there}
use proofs.{ChangesKept.{decided_back, positions_left}, LiveStates.apart_gone, Vocabulary.refl}

pub offer_again-requires-clause-there : goal.offer_again-requires-clause-there
offer_again-requires-clause-there c = undone_there c.requires.can.goes.free.filed c.requires.found

pub returns : goal.returns
returns c =
    let of = c.requires.back in
    let go = c.requires.can.goes.free in
    let back = decided_back _ _ _ of.0 _ of.1 of.2 in
    apart_gone c.requires.can.goes _ refl refl (undone_of_trees go c.requires.found) back.other
    (c.offer_again.ensures.gone _ _ go) c.offer_again.ensures.last (positions_left go back.idle _)
