use Rattle.std.proofs.Common.{◌≡◌, ◌∙◌, sym, rules, true, false}
use Rattle.gu_base.specs.House.{knows_firm}
use Rattle.gu_roll.proofs.Firsts.{passed, found}
use Rattle.gu_roll.proofs.extending.first_lost_firm.Goals as goal

pub returns-then-not-firm : goal.returns-then-not-firm
returns-then-not-firm c =
    let fails : knows_firm c.args.new.now c.in-Some.firm ≡ false = search rules in
    let here = found (knows_firm c.args.new.now) c.loop-place.place c.args.old.now.firms
    c.in-Some.firm (sym c.in-Some.ensures) fails in
    sym here ∙ c.loop-place.invariant

pub loop-place-preserved : goal.loop-place-preserved
loop-place-preserved c =
    let holds : knows_firm c.args.new.now c.in-Some.firm ≡ true = search rules in
    let here = passed (knows_firm c.args.new.now) c.loop-place.place c.args.old.now.firms
    c.in-Some.firm (sym c.in-Some.ensures) holds in
    here ∙ c.loop-place.invariant
