use Rattle.gu_book.proofs.book.Book.seek.Goals as goal
use Rattle.gu_book.proofs.Books.{trees_kept}

pub seek-requires-clause-trees : goal.seek-requires-clause-trees
seek-requires-clause-trees c = rw c.as_slice-entries.ensures.value (trees_kept c.self.invariant.0)

pub returns-clause-seen : goal.returns-clause-seen
returns-clause-seen c = λ by. rw (← c.self.view_is) (rw c.as_slice-entries.ensures.value at c.seek.ensures.seen by)
