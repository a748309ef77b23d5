use Rattle.gu_fees.proofs.pair.PairTerms.entry_count.Goals as goal
use Rattle.std.proofs.lemmas.List.{length-map}

pub returns-clause-value : goal.returns-clause-value
returns-clause-value c = rw (← c.self.view_is) (simp length-map c.count.ensures.value)
