use Rattle.std.proofs.Common.{◌≡◌, ◌∙◌, Some, None, ap, subst, arith}
use Rattle.std.specs.Prelude.{slice_get}
use Rattle.std.proofs.lemmas.Option.{slice_get_past}
use Rattle.gu_base.specs.House.{House}
use Rattle.gu_base.specs.declared.house.Pair.{Pair}
use Rattle.gu_base.specs.declared.house.Agreement.{Agreement}
use Rattle.gu_parties.proofs.OpeningCalls.{call_there, none_there}
use Rattle.gu_parties.proofs.house.House.opening_at.Goals as goal

pub returns-then-place-len-clause-call : goal.returns-then-place-len-clause-call
returns-then-place-len-clause-call c =
    none_there c.args.self.now c.args.place
    (subst (λ (t : House). slice_get t.opening c.args.place ≡ None) c.self.view_is
    (slice_get_past c.self.inside.opening.entries c.args.place (omega (arith, c.len.ensures.len, c.if-place-len.true))))

pub returns-in-Some-clause-call : goal.returns-in-Some-clause-call
returns-in-Some-clause-call c =
    let e : Pair × Agreement = (c.in-Some.pair.now, c.in-Some.agreement.now) in
    let at : Some e ≡ slice_get c.args.self.now.opening c.args.place =
    c.in-Some.ensures.entry ∙ ap (λ (t : House). slice_get t.opening c.args.place) c.self.view_is in
    rw (c.opening_call.ensures.id, c.opening_call.ensures.command) (call_there c.args.self.now c.args.place e at)
