use Rattle.std.proofs.Common.{sym, ap, ◌∙◌}
use Rattle.std.proofs.lemmas.Bool.{eqb-true}
use Rattle.std.proofs.lemmas.List.{nil_from_length}
use Rattle.gu_codec.specs.Fields.{are_fields}
use Rattle.gu_codec.proofs.FieldSteps.{field_shrinks, test_goes, test_stops, test_ends, some_length}
use Rattle.gu_codec.proofs.fields.are_any_fields.Goals as goal

pub returns-in_default : goal.returns-in_default
returns-in_default c =
    sym (test_stops c.loop-rest.rest.now (some_length _ (c.loop-rest-test.ensures)) (sym (c.in_default.ensures)))
    ∙ c.loop-rest.invariant

pub loop-rest-smaller : goal.loop-rest-smaller
loop-rest-smaller c = field_shrinks c.loop-rest.rest.now _ c.in-Some.after.now (sym (c.in-Some.ensures))

pub loop-rest-preserved : goal.loop-rest-preserved
loop-rest-preserved c =
    sym (test_goes c.loop-rest.rest.now _ c.in-Some.after.now (sym (c.in-Some.ensures))) ∙ c.loop-rest.invariant

pub returns : goal.returns
returns c =
    let nothing = nil_from_length c.loop-rest.rest.now (eqb-true _ _ (sym (c.loop-rest-test.ensures))) in
    sym test_ends ∙ ap are_fields (sym nothing) ∙ c.loop-rest.invariant
