use Rattle.gu_fees.proofs.pair.PairTerms.first_standing.Goals as goal
use Rattle.gu_base.specs
use Rattle.gu_fees.{proofs.Dealings.{deed_kept, low_terms, standing_is}, specs.Pairs.dealings_of}
use Rattle.std.{proofs.Common.{ap, List, Option, sym, ℕ, ◌∙◌, ◌≡◌}, specs.Prelude.{option_and_then, Some}}
use specs.{Dealt.{first_over, leave_out}, declared.house.{Agreement.Agreement, Dealing.Dealing}, Terms.terms_under}

pub first_over-requires : goal.first_over-requires
first_over-requires c =
    low_terms _ _ _ c.self.invariant.kept.small (sym (rw (← c.self.view_is) at c.in-Some.ensures))

pub returns-in-Some-Makes : goal.returns-in-Some-Makes
returns-in-Some-Makes c =
    let at = sym c.get.ensures ∙ (c.in-Some-Makes.is ∙ ap Some c.in-Some-Makes.field-0-is) in
    rw (← c.self.view_is) (cc (standing_is c.self.inside.file _ c.args.entry at))

-- the terms that a Raise stands on
under : (file : Option Agreement) (ds : List Dealing) (n : ℕ) {o : Option Agreement} → terms_under file ds ≡ o
    → option_and_then (λ a. first_over a.limit 0 (leave_out n ds)) (terms_under file ds)
    ≡ option_and_then (λ a. first_over a.limit 0 (leave_out n ds)) o
under file ds n terms = rw terms

pub returns-in-Some : goal.returns-in-Some
returns-in-Some c =
    let at = sym c.get.ensures ∙ (c.in-Some-Raises.is ∙ ap Some c.in-Some-Raises.field-0-is) in
    let kept = c.self.inside.deeds.filed.kept in
    let terms = sym (rw (← c.self.view_is) at c.in-Some.ensures) in
    let over = rw (deed_kept kept c.args.entry ∙ at) at (rw (← c.self.view_is) at c.first_over.ensures) in
    rw (← c.self.view_is) (over ∙ sym (standing_is c.self.inside.file kept c.args.entry at
    ∙ under c.self.inside.file (dealings_of kept) c.args.entry terms))

pub returns-in-None : goal.returns-in-None
returns-in-None c = rw (← c.self.view_is) (sym (standing_is _ _ c.args.entry (sym c.get.ensures ∙ c.in-None.is)))

pub returns-in-Some-Uses : goal.returns-in-Some-Uses
returns-in-Some-Uses c =
    rw (← c.self.view_is) (sym (standing_is _ _ c.args.entry (sym c.get.ensures
    ∙ (c.in-Some-Uses.is ∙ ap Some c.in-Some-Uses.field-0-is))))

pub returns-in-None-terms : goal.returns-in-None-terms
returns-in-None-terms c =
    let at = sym c.get.ensures ∙ (c.in-Some-Raises.is ∙ ap (λ d. Some d) c.in-Some-Raises.field-0-is) in
    let terms = sym (rw (← c.self.view_is) at c.terms.ensures) ∙ c.in-None-terms.is in
    rw (← c.self.view_is) (sym (standing_is c.self.inside.file _ c.args.entry at
    ∙ under c.self.inside.file (dealings_of c.self.inside.deeds.filed.kept) c.args.entry terms))
