use Rattle.gu_book.proofs.live_state.LiveState.remove_trade.Goals as goal
use Rattle.gu_book.proofs.{LiveStates.{apart_gone, trade_gone, trade_there}, Vocabulary.refl}

pub take-requires : goal.take-requires
take-requires c = trade_there c.requires.can.goes _ c.requires.trade

pub returns : goal.returns
returns c =
    let goes = c.requires.can.goes in
    let trade = c.requires.trade in
    apart_gone goes _ refl refl (cc) (cc) (c.uproot.ensures.gone _ _ goes.free) c.uproot.ensures.last
    (trade_gone goes _ trade _ c.take.ensures)
