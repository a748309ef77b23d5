use Rattle.std.proofs.Common.{◌≡◌, ◌∙◌, sym, rules, true, false}
use Rattle.gu_base.specs.House.{knows_instrument}
use Rattle.gu_roll.proofs.Firsts.{passed, found}
use Rattle.gu_roll.proofs.extending.first_lost_instrument.Goals as goal

pub returns-then-not-instrument : goal.returns-then-not-instrument
returns-then-not-instrument c =
    let fails : knows_instrument c.args.new.now c.in-Some.instrument ≡ false = search rules in
    let here = found (knows_instrument c.args.new.now) c.loop-place.place c.args.old.now.instruments
    c.in-Some.instrument (sym c.in-Some.ensures) fails in
    sym here ∙ c.loop-place.invariant

pub loop-place-preserved : goal.loop-place-preserved
loop-place-preserved c =
    let holds : knows_instrument c.args.new.now c.in-Some.instrument ≡ true = search rules in
    let here = passed (knows_instrument c.args.new.now) c.loop-place.place c.args.old.now.instruments
    c.in-Some.instrument (sym c.in-Some.ensures) holds in
    here ∙ c.loop-place.invariant
