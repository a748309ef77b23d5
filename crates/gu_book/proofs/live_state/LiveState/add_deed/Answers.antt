use Rattle.gu_book.proofs.live_state.LiveState.add_deed.Goals as goal
use Rattle.gu_book.proofs.{ChangesKept.can_put_at, LiveStates.{may_deal, state_dealt}, Vocabulary.sym}

pub put_at-requires : goal.put_at-requires
put_at-requires c =
    let can = c.requires.can.follows in
    let l = c.args.addition.now.changes in
    can_put_at _ c.in_ok-place.ensures.place
    (may_deal can c.requires.of_terms c.deed_of-giver.result.0 c.deed_of-giver.result.1 c.deed_of-giver.result.2
    (c.deed_of-giver.ensures l) c.ready.new.terms (c.in_ok-place.ensures.same l can.state.dealt)
    c.in_ok-place.ensures.last c.in_ok-place.ensures.ready)

pub returns-clause-added : goal.returns-clause-added
returns-clause-added c =
    let can = c.requires.can.follows in
    let l = c.args.addition.now.changes in
    state_dealt can c.requires.of_terms _ _ _
    (c.deed_of-giver.ensures l) _ (c.in_ok-place.ensures.same l can.state.dealt)
    c.in_ok-place.ensures.last _ (c.put_at.ensures _ _ (sym c.in_ok-place.ensures.place))
