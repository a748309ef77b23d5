use Rattle.std.specs.Prelude.{slice_get}
use Rattle.std.proofs.Common.{◌≡◌, ◌∙◌, ℕ, List, [], ◌∷◌, refl, ap}
use Rattle.gu_base.specs.Consents.{missing}
use Rattle.gu_consent.specs.Given.{firms_in}
use Rattle.gu_consent.proofs.Replaced.{firms}
use Rattle.gu_consent.proofs.Consents.missing.Goals as goal

-- where nobody consents the first of all is missing
first_missing : (fs : List (List ℕ)) → slice_get fs 0 ≡ missing fs []
first_missing [] = refl
first_missing (f ∷ fs) = refl

pub returns-in-None : goal.returns-in-None
returns-in-None c =
    let nothing = rw c.get.ensures.value at c.in-None.ensures.value in
    c.copied.ensures
    ∙ (c.first.ensures.value
    ∙ (first_missing c.args.firms.now ∙ ap (λ o. missing c.args.firms.now (firms firms_in o)) nothing))
