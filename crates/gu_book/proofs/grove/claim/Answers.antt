use Rattle.gu_book.proofs.grove.claim.Goals as goal
use Rattle.gu_book.proofs
use proofs.FiledChanges.{claimed, may_decide}
use proofs.{OnePlace.named_spot, Vocabulary.{ap, decides, name_same, named_node, ◌∙◌}}

pub unreachable-requires : goal.unreachable-requires
unreachable-requires c =
    rw (ap named_node c.requires.claim.1, c.in_default.is) at c.requires.there

pub claim-requires : goal.claim-requires
claim-requires c =
    let next = c.requires.due.2 in
    let s = named_spot next _ _ c.requires.there _ (cc) _ c.in-Some.is in
    let is = ap (decides c.requires.claim.0) c.requires.claim.1 ∙ name_same c.requires.claim.0 in
    record { offered = may_decide next s is; above = next.later; place_room = c.requires.place_room }

pub returns-clause-follows : goal.returns-clause-follows
returns-clause-follows c = λ t l next.
    let s = named_spot next _ _ c.requires.there _ (cc) _ c.in-Some.is in
    claimed next s _ c.requires.claim.1 _
    (record { tree = c.claim.ensures.tree; place = c.claim.ensures.place }) c.claim.ensures.shows
