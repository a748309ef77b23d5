use Rattle.std.proofs.Common.{◌≡◌, ◌∙◌, sym, ap, rules, true, false}
use Rattle.std.specs.Prelude.{option_map}
use Rattle.gu_base.specs.declared.house.Pair.{Pair}
use Rattle.gu_base.specs.declared.house.Agreement.{Agreement}
use Rattle.gu_lives.specs.Extends.{keeps_terms}
use Rattle.gu_roll.proofs.Firsts.{passed, found}
use Rattle.gu_roll.proofs.extending.first_other_terms.Goals as goal

pub returns-then-not-are_kept : goal.returns-then-not-are_kept
returns-then-not-are_kept c =
    let fails : keeps_terms c.args.old.now c.args.new.now c.in-Some.line ≡ false = search rules in
    let here = found (keeps_terms c.args.old.now c.args.new.now) c.loop-place.place c.args.lines.now.agreements
    c.in-Some.line (sym c.in-Some.ensures) fails in
    ap (option_map (λ (e : Pair × Agreement). e.0)) (sym here ∙ c.loop-place.invariant)

pub loop-place-preserved : goal.loop-place-preserved
loop-place-preserved c =
    let holds : keeps_terms c.args.old.now c.args.new.now c.in-Some.line ≡ true = search rules in
    let here = passed (keeps_terms c.args.old.now c.args.new.now) c.loop-place.place c.args.lines.now.agreements
    c.in-Some.line (sym c.in-Some.ensures) holds in
    here ∙ c.loop-place.invariant
