use Rattle.gu_fees.proofs.terms.Terms.ready.Goals as goal
use Rattle.gu_base.specs.declared.house.Agreement.{Agreement}
use Rattle.gu_fees.{proofs.Places.{on_err, some_there}, specs.{Pairs.PairView, Terms.{IsRowAfter, IsSameRow}}}
use Rattle.std.{proofs.Common.{Option, sym, ◌∙◌}, specs.Prelude.{IfSome, IsSomeAnd, None, Some}}

-- a row that was there has the terms and the dealings that it had
same_after : (file : Option Agreement) (o n : Option PairView) → IsSomeAnd o (λ r. Unit {0}) → IsRowAfter o file n
    → IsSameRow o n
same_after file None n there after = absurd there
same_after file (Some r) None there after = absurd after
same_after file (Some r) (Some q) there after = after

if_some : (o : Option PairView) → IfSome o (λ r. Unit {0})
if_some None = tt
if_some (Some r) = tt

pub returns-in-Some-clause-readied : goal.returns-in-Some-clause-readied
returns-in-Some-clause-readied c = c.ready_at.ensures.readied c.args.giver.now c.args.taker.now c.args.file (cc)

pub returns-in-Some-clause-err : goal.returns-in-Some-clause-err
returns-in-Some-clause-err c =
    let found =
    sym c.place.ensures.value ∙ c.in-Some.is in
    let low = c.in-Some.ensures.there in
    let there = some_there _ _ _ low (if_some _) in
    on_err _
    (same_after _ _ _ (rw found there)
    (c.ready_at.ensures.readied c.args.giver.now c.args.taker.now c.args.file found).own)
