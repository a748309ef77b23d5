use Rattle.gu_book.proofs.rules.charges.claim_charge.Goals as goal
use Rattle.gu_book.proofs.Within.{node_within}

pub node_charge-requires-clause-few : goal.node_charge-requires-clause-few
node_charge-requires-clause-few c =
    let small = node_within c.args.changes.now c.args.node c.requires.within in rw (← c.in-Some.ensures) at small
