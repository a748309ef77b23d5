use Rattle.gu_tree.proofs.tree.Tree.make_split.Goals as goal
use Rattle.gu_tree.proofs.{Parts.{at_fact, some_and}, ShowsChanges.split_shows, Splits.split_tree}

pub returns-clause-node : goal.returns-clause-node
returns-clause-node g c = rw (c.as_slice.ensures.value, c.self.view_is) at c.in_ok-split_at.ensures.node

pub invariant_of-self-2 : goal.invariant_of-self-2
invariant_of-self-2 g c =
    let (v, led, can) = some_and _ _ c.requires.leaf in
    split_tree _ _ v _ c.args.entry c.args.parts.now led can c.requires.shallow c.requires.fresh
    (returns-clause-node g c) (rw c.self.view_is at c.self.invariant)

pub returns-clause-shows : goal.returns-clause-shows
returns-clause-shows g c =
    let (v, led, can) = some_and _ _ c.requires.leaf in
    split_shows _ _ v _ c.args.entry c.args.parts.now led can (at_fact _ _ _ led c.requires.accounts)
    c.requires.fresh (rw c.self.view_is at c.self.invariant).once (returns-clause-node g c)
