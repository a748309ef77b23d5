use Rattle.gu_book.proofs.grove.unclaim.Goals as goal
use Rattle.gu_book.proofs.{Gone.{claim_gone, its_spot, leaf_there}, Vocabulary.{DecidesNode, refl, subst, sym}}

pub unclaim-requires : goal.unclaim-requires
unclaim-requires c =
    let go = c.requires.may_go.2 in
    let claims = c.requires.claim.2 in
    let spot = its_spot go _ _ _ (cc) c.requires.there in
    let decides = subst (DecidesNode c.requires.claim.0) (sym claims) refl in
    record { claimed = leaf_there go spot decides _ (λ h state. cc) }

pub returns-clause-gone : goal.returns-clause-gone
returns-clause-gone c = λ t l u.
    let claims = c.requires.claim.2 in
    let spot = its_spot u _ _ _ (cc) c.requires.there in
    let decides = subst (DecidesNode c.requires.claim.0) (sym claims) refl in
    claim_gone u spot decides _ c.unclaim.ensures.tree c.unclaim.ensures.place c.unclaim.ensures.shows
