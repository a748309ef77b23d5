use Rattle.std.proofs.Common.{◌≡◌, ◌++◌, [], ◌∷◌, List, ap, ◌∙◌}
use Rattle.gu_recorder.specs.Waiting.{Outgoing}
use Rattle.gu_recorder.specs.declared.made.MadeByte.{MadeByte}
use Rattle.gu_recorder.proofs.outbox.Outbox.hold.Goals as goal

-- what stands behind something, where there is nothing, is nothing
back_of_nothing : (xs ys : List MadeByte) → xs ++ ys ≡ [] → ys ≡ []
back_of_nothing [] ys e = e
back_of_nothing (x ∷ xs) ys e = cc

-- where nothing was to be sent the back has none
pub invariant_of-self-then-is_empty : goal.invariant_of-self-then-is_empty
invariant_of-self-then-is_empty g c = λ _. back_of_nothing c.self.inside.front.made c.self.inside.back.made
    (ap (λ (o : Outgoing). o.waits) c.self.view_is ∙ c.is_empty.ensures.0 c.if-is_empty.true)
