use Rattle.gu_book.proofs.grove.uproot.Goals as goal
use Rattle.gu_book.proofs.Gone.{root_gone, sapling_there}

pub uproot-requires : goal.uproot-requires
uproot-requires c = record { sapling = sapling_there c.requires.may_go.2 c.requires.trade }

pub returns-clause-gone : goal.returns-clause-gone
returns-clause-gone c = λ t l u.
    root_gone u c.requires.trade _ c.uproot.ensures.tree c.uproot.ensures.place
