use Rattle.gu_book.proofs.live_state.LiveState.add_trade.Goals as goal
use Rattle.gu_book.proofs
use proofs.ChangesKept.{next_of, trade_fits, trade_stands}
use proofs.{Filed.{due_same, follows_same}, LiveStates.state_apart, Vocabulary.{refl, sym}}

pub put-requires : goal.put-requires
put-requires c = trade_fits c.requires.can.follows _ c.requires.trade

pub plant-requires-clause-due : goal.plant-requires-clause-due
plant-requires-clause-due c =
    due_same _ _ _ c.in_ok-ready.ensures.same (_, _, next_of c.requires.can.follows)

pub returns-clause-added : goal.returns-clause-added
returns-clause-added c =
    let can = c.requires.can.follows in
    let filed = follows_same _ _ _ _ c.in_ok-ready.ensures.same c.plant.ensures.follows _ _ (next_of can) in
    state_apart can _ refl refl filed c.plant.ensures.last (sym (cc))
    (trade_stands can _ c.requires.trade _ c.in_ok-put.ensures.put) (cc)
