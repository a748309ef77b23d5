use Rattle.gu_book.proofs.rules.holdings.take_away.Goals as goal
use Rattle.gu_book.proofs
use proofs.HoldingRows.{first_there, given_here}
use proofs.Vocabulary.{arith, drop, filter_map, HaveThere, Holding, holding_away, part_away, ◌+◌}

pub take-requires : goal.take-requires
take-requires c =
    let i = c.loop-part.part-index in
    let f = part_away c.args.whole.now c.args.by.now in
    let h : Holding = holding_away c.args.whole.now c.args.by.now c.in-Some.account.now c.part-item.result.lots in
    let here = given_here f _ i _ _ c.loop-part-test.true c.part-item.is c.in-Some.ensures in
    let there : HaveThere c.loop-part.positions (filter_map f (drop i c.args.parts.now)) = λ at side.
    let all = c.requires at side in
    let gone = c.loop-part.invariant.gone at side in
    omega arith in
    first_there _ h (filter_map f (drop (i + 1) c.args.parts.now)) (rw here at there)
