-- What a server gives back may go to another thread.
use denote.Param.Send.{IsSend, sendable}
use Rattle.std.proofs.Crossing.{crosses}
use Rattle.std.specs.contracts.result.Result.{the_row as ResultOf}
use Rattle.gu_book.proofs.Crossing.{book_send}
use Rattle.gu_book.specs.contracts.book.Book as Book
use Rattle.gu_command.proofs.fault.Fault.TheSendSync as fault
use Rattle.gu_command.specs.contracts.fault.Fault as Fault

pub served_sent : IsSend (ResultOf Book.the_row Fault.the_row)
served_sent = search (book_send, fault.the_send, crosses, sendable) depth 12
