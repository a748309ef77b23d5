use Rattle.gu_book.proofs.grove.unsplit.Goals as goal
use Rattle.gu_book.proofs.Gone.{its_spot, may_unsplit, split_names, unsplit_gone}

pub unsplit-requires : goal.unsplit-requires
unsplit-requires c =
    let of = c.requires.split in
    let go = c.requires.may_go.2 in
    record { undecided = may_unsplit go (its_spot go _ _ _ (split_names of.0 _ of.1).0 c.requires.there) of.1 }

pub returns-clause-gone : goal.returns-clause-gone
returns-clause-gone c = λ t l u.
    let of = c.requires.split in
    let spot = its_spot u _ _ _ (split_names of.0 _ of.1).0 c.requires.there in
    unsplit_gone u spot of.1 _ c.unsplit.ensures.tree c.unsplit.ensures.place c.unsplit.ensures.shows
