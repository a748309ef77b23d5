use Rattle.gu_depend.proofs.standing.entries_beside.Goals as goal
use Rattle.gu_depend.proofs.{ReadOff.counted, Vocabulary.◌∙◌}

pub returns-clause-value : goal.returns-clause-value
returns-clause-value c = λ t l are. c.entries_beside.ensures.value ∙ counted t l c.args.terms.now are c.args.k
