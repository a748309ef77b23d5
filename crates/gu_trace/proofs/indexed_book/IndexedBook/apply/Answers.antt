use Rattle.gu_book.specs.Seen.{stored}
use Rattle.gu_trace.proofs.Indexed.{index_kept}
use Rattle.gu_trace.proofs.indexed_book.IndexedBook.apply.Goals as goal

pub file-requires : goal.file-requires
file-requires c =
    index_kept (stored c.self.inside.book) (stored c.apply-answer.new.self) _ c.apply-answer.result c.self.inside.index
    c.apply-answer.ensures.kept c.apply-answer.ensures.unchanged c.history.ensures.run c.self.invariant
