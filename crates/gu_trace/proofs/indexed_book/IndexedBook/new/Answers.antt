use Rattle.gu_trace.proofs.indexed_book.IndexedBook.new.Goals as goal

pub file-requires : goal.file-requires
file-requires c = c.new-index.ensures c.args.book.house.house c.args.book.history
