use Rattle.gu_book.proofs.Leaves as sums
use Rattle.gu_book.proofs.Positions as balance
use Rattle.gu_book.proofs.laws.lots_and_fees_are_conserved.Goals as goal
use Rattle.gu_base.proofs.LegalLaws.{replay_from_legal}

pub returns-clause-leaves : goal.returns-clause-leaves
returns-clause-leaves c =
    let book = c.args.book.now in
    sums.leaves_sum book.house _ (replay_from_legal _ _ c.history.ensures.legal) (sums.live_rises book.history)

pub returns-clause-positions : goal.returns-clause-positions
returns-clause-positions c =
    let book = c.args.book.now in
    balance.positions_sum _ _ (replay_from_legal _ _ c.history.ensures.legal) (sums.live_rises book.history)
