use Rattle.gu_book.proofs.grove.give_back.Goals as goal
use Rattle.gu_book.proofs.{FiledChanges.{back_names, given_back, may_decide}, OnePlace.named_spot}

pub unreachable-requires : goal.unreachable-requires
unreachable-requires c =
    rw ((back_names _ _ _ c.requires.back.1).0, c.in_default.is) at c.requires.there

pub give_back-requires-clause-offered : goal.give_back-requires-clause-offered
give_back-requires-clause-offered c =
    let next = c.requires.due.2 in
    let names = back_names _ _ _ c.requires.back.1 in
    may_decide next (named_spot next _ _ c.requires.there _ names.0 _ c.in-Some.is) names.1

pub returns-clause-follows : goal.returns-clause-follows
returns-clause-follows c = λ t l next.
    let names = (back_names _ _ _ c.requires.back.1).0 in
    let s = named_spot next _ _ c.requires.there _ names _ c.in-Some.is in
    given_back next s _ c.requires.back.1 _
    (record { tree = c.give_back.ensures.tree; place = c.give_back.ensures.place }) c.give_back.ensures.shows
