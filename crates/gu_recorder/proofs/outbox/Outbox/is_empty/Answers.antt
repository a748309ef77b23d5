use Rattle.std.proofs.Common.{◌≡◌, ◌++◌, [], ◌∷◌, List, IsTrue, true≢false, sym, ap, refl, ◌∙◌, subst}
use Rattle.gu_recorder.specs.Waiting.{Outgoing}
use Rattle.gu_recorder.specs.declared.made.MadeByte.{MadeByte}
use Rattle.gu_recorder.proofs.outbox.Outbox.is_empty.Goals as goal

-- what stands before nothing is nothing
front_of_nothing : (xs ys : List MadeByte) → xs ++ ys ≡ [] → xs ≡ []
front_of_nothing [] ys e = refl
front_of_nothing (x ∷ xs) ys e = cc

pub returns-else-is_empty : goal.returns-else-is_empty
returns-else-is_empty g c = (
  λ t. absurd (true≢false (sym (subst IsTrue c.if-is_empty.false t))),
  λ e. c.is_empty.ensures.1
      (front_of_nothing c.self.inside.front.made c.self.inside.back.made
      (ap (λ (o : Outgoing). o.waits) c.self.view_is ∙ e)),
)
