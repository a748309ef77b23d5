-- A book with its index may go to another thread.
use Rattle.gu_book.proofs.Crossing.{book_send}
use Rattle.gu_trace.proofs.index.ConcernIndex.TheSendSync as index
use Rattle.gu_trace.specs.contracts.indexed_book.IndexedBook as IndexedBook
use denote.Param.Send.{IsSend, sendable}

pub indexed_send : IsSend IndexedBook.the_row
indexed_send = search (book_send, index.the_field_send, index.the_send, sendable) depth 8
