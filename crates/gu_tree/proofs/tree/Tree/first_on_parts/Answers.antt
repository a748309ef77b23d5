use Rattle.gu_tree.proofs.tree.Tree.first_on_parts.Goals as goal
use Rattle.gu_tree.{proofs.{Parts.at_there, ToldAt.told_at, Vocabulary.{ap, ◌∙◌}}, specs.NumbersOn.least}

pub returns-clause-shows : goal.returns-clause-shows
returns-clause-shows g c = λ l trade is.
    let led = rw (c.as_slice.ensures.value, c.self.view_is) at c.at.ensures in
    at_there _ _ c.at.result.now led (c.first_on_parts.ensures ∙ ap least (told_at l trade _ is _ _ led).parts)
