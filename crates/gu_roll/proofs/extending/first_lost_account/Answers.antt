use Rattle.std.proofs.Common.{◌≡◌, ◌∙◌, sym, rules, true, false}
use Rattle.gu_base.specs.House.{knows_account}
use Rattle.gu_base.specs.declared.house.Account.{Account}
use Rattle.gu_roll.proofs.Firsts.{passed, found}
use Rattle.gu_roll.proofs.extending.first_lost_account.Goals as goal

pub returns-then-not-account : goal.returns-then-not-account
returns-then-not-account c =
    let fails : knows_account c.args.new.now c.in-Some.account.firm c.in-Some.account.name ≡ false = search rules in
    let here = found (λ (a : Account). knows_account c.args.new.now a.firm a.name) c.loop-place.place
    c.args.old.now.accounts c.in-Some.account (sym c.in-Some.ensures) fails in
    sym here ∙ c.loop-place.invariant

pub loop-place-preserved : goal.loop-place-preserved
loop-place-preserved c =
    let holds : knows_account c.args.new.now c.in-Some.account.firm c.in-Some.account.name ≡ true = search rules in
    let here = passed (λ (a : Account). knows_account c.args.new.now a.firm a.name) c.loop-place.place
    c.args.old.now.accounts c.in-Some.account (sym c.in-Some.ensures) holds in
    here ∙ c.loop-place.invariant
