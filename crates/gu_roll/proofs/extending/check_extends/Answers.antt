use Rattle.std.proofs.Common.{◌∙◌, sym, refl}
use Rattle.gu_roll.proofs.Lacking.{lacks_none, extends_none, no_lack}
use Rattle.gu_roll.proofs.extending.check_extends.Goals as goal

pub returns-in-None-clause-test : goal.returns-in-None-clause-test
returns-in-None-clause-test c = (
  λ _. lacks_none c.args.old.now c.args.new.now (sym c.in-None.ensures),
  λ _. refl,
)

pub returns-in-Some-clause-test : goal.returns-in-Some-clause-test
returns-in-Some-clause-test c = (
  λ h. absurd (cc),
  λ holds. absurd (no_lack c.in-Some.lack (c.in-Some.ensures ∙ extends_none c.args.old.now c.args.new.now holds)),
)

pub returns-in-None-clause-extends : goal.returns-in-None-clause-extends
returns-in-None-clause-extends c =
    c.a_larger_house_keeps_the_history.ensures.test c.args.old.now c.args.new.now
    (lacks_none c.args.old.now c.args.new.now (sym c.in-None.ensures))
