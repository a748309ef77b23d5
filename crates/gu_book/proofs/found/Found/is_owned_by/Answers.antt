use Rattle.gu_book.proofs.found.Found.is_owned_by.Goals as goal
use Rattle.gu_book.proofs.{FiledChanges.owns_at, Vocabulary.{sym, ◌∙◌}}

pub returns : goal.returns
returns c = λ l x is. c.eq.ensures ∙ sym (owns_at l c.args.firm.now x.name c.args.self.now.head.place is.place)
