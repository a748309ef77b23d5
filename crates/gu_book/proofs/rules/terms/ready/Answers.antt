use Rattle.gu_book.proofs.rules.terms.ready.Goals as goal
use Rattle.gu_book.proofs.{rules.terms.ready.Goals.After-ready_at, Vocabulary.{agreement, lookup, refl, Some, sym, ◌≡◌}}
use Rattle.{gu_depend.proofs.TermsFollow.readied_follows, gu_fees.specs.{Rows.is_pair, Terms.IsReadied}}

-- where the two stand
at : (c : After-ready_at)
    → lookup (is_pair c.args.giver.now c.args.taker.now) c.args.terms.now.places ≡ Some c.in-Some.place
at c = cc

readied : (c : After-ready_at)
    → IsReadied c.args.terms.now c.ready_at.new.self c.args.giver.now c.args.taker.now
    (agreement c.args.house.now c.args.giver.now c.args.taker.now)
readied c =
    c.ready_at.ensures.readied _ _
    _ (at c)

pub returns-clause-place : goal.returns-clause-place
returns-clause-place c =
    let w = (goal.at.returns-clause-place c).After-ready_at in
    sym ((readied w).places _ _ _ (at w))

pub returns-clause-same : goal.returns-clause-same
returns-clause-same c = λ l are.
    readied_follows _ l _ are _ _ _ (readied (goal.at.returns-clause-same c).After-ready_at)

pub returns-in_err-ready_at-clause-same : goal.returns-in_err-ready_at-clause-same
returns-in_err-ready_at-clause-same c =
    λ l are.
    readied_follows _ l _ are _ _ _ (readied (goal.at.returns-in_err-ready_at-clause-same c).After-ready_at)

pub returns-clause-last : goal.returns-clause-last
returns-clause-last c = rw (readied _).entries refl

pub returns-in_err-ready_at-clause-last : goal.returns-in_err-ready_at-clause-last
returns-in_err-ready_at-clause-last c = rw (readied _).entries refl
