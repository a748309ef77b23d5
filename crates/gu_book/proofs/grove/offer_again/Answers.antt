use Rattle.gu_book.proofs.grove.offer_again.Goals as goal
use Rattle.gu_book.proofs.Gone.{decision_names, its_spot, leaf_there, turned_gone}

pub offer_again-requires : goal.offer_again-requires
offer_again-requires c =
    let go = c.requires.may_go.2 in
    let of = c.requires.back in
    let spot = its_spot go _ _ _ (decision_names of.0 _ of.1).0 c.requires.there in
    record { given_back = leaf_there go spot of.1 _ (λ h state. cc) }

pub returns-clause-gone : goal.returns-clause-gone
returns-clause-gone c = λ t l u.
    let of = c.requires.back in
    let spot = its_spot u _ _ _ (decision_names of.0 _ of.1).0 c.requires.there in
    turned_gone u spot of.1 _ c.offer_again.ensures.tree c.offer_again.ensures.place
    c.offer_again.ensures.shows
