use Rattle.std.specs.Prelude.{◌∷◌, ◌++◌, [], IsSome, Result, Ok, Err, OnErr}
use Rattle.std.specs.Map.{lookup}
use Rattle.std.proofs.Common.{◌==◌, ◌∙◌, ap, subst, refl}
use Rattle.gu_consent.specs.declared.Firms.{Firms}
use Rattle.gu_consent.proofs.Replaced.{firms, changed, same_either}
use Rattle.gu_consent.specs.Given.{firms_in, given}
use Rattle.gu_consent.proofs.Consents.give.Goals as goal

on_err : {T E P : Type 0} (r : Result T E) → P → OnErr r P
on_err (Ok x) p = tt
on_err (Err e) p = p

pub returns-in_err-push-clause-unchanged : goal.returns-in_err-push-clause-unchanged
returns-in_err-push-clause-unchanged c =
    let w : Firms = record { first = c.in-Some.firms.now.first; others = c.push.new.self } in
    let there = rw c.get.ensures.value at c.in-Some.ensures.value in
    let written =
    rw c.get.ensures.value at ((c.get_mut.follows.holds w).3 (subst IsSome c.in-Some.ensures.value refl)).0 in
    let same =
    changed firms_in c.args.entry (λ n. lookup (λ m. n == m) c.args.self.now.firms.entries)
    (λ n. lookup (λ m. n == m) (c.get_mut.follows.lender w).entries) w (λ l. l)
    (ap (λ v. c.in-Some.firms.now.first ∷ v) c.in_err-push.ensures.items ∙ ap (firms firms_in) there) written in
    on_err c.from_residual.result (λ n. same n ∙ same_either (n == c.args.entry) (given c.args.self.now n))

pub returns-in-Some-clause-given : goal.returns-in-Some-clause-given
returns-in-Some-clause-given c =
    let w : Firms = record { first = c.in-Some.firms.now.first; others = c.push.new.self } in
    let there = rw c.get.ensures.value at c.in-Some.ensures.value in
    let written =
    rw c.get.ensures.value at ((c.get_mut.follows.holds w).3 (subst IsSome c.in-Some.ensures.value refl)).0 in
    changed firms_in c.args.entry (λ n. lookup (λ m. n == m) c.args.self.now.firms.entries)
    (λ n. lookup (λ m. n == m) (c.get_mut.follows.lender w).entries) w (λ l. l ++ c.args.firm ∷ [])
    (ap (λ v. c.in-Some.firms.now.first ∷ v) c.in_ok-push.ensures.items
    ∙ ap (λ o. firms firms_in o ++ c.args.firm ∷ []) there)
    written

pub returns-clause-given : goal.returns-clause-given
returns-clause-given c =
    let w : Firms = record { first = c.args.firm; others = c.new.result } in
    let nothing = rw c.get.ensures.value at c.in_default.ensures.value in
    let written = rw (c.get-2.ensures.value, c.get_mut.follows.holds-at-none) at c.in_ok-insert.ensures.updates.0 in
    changed firms_in c.args.entry (λ n. lookup (λ m. n == m) c.args.self.now.firms.entries)
    (λ n. lookup (λ m. n == m) c.insert.new.self.entries) w (λ l. l ++ c.args.firm ∷ [])
    (ap (λ v. c.args.firm ∷ v) c.new.ensures.items ∙ ap (λ o. firms firms_in o ++ c.args.firm ∷ []) nothing) written
