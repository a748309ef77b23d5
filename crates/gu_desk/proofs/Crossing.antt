-- Threads may share a desk, and a seat, the journal's seat and a ticket may go to another thread, whatever their job:
-- what they own says the same to each.
use denote.RattleType.{RattleType}
use denote.Param.Send.{IsSend, IsSync, sendable}
use Rattle.std.proofs.Crossing.{crosses, frees, send as heap_send, sync as heap_sync, Arc-send, Arc-sync}
use Rattle.std.proofs.sync.ledger.Book.TheSendSync as total
use Rattle.std.proofs.sync.ledger.Share.TheSendSync as share
use Rattle.std.specs.declared.sync.ledger.Ledger as ledger
use Rattle.std.specs.contracts.alloc.Global as heap
use Rattle.std.specs.contracts.sync.Arc as Arc
use Rattle.std.specs.contracts.sync.ledger.Book as Total
use Rattle.std.specs.contracts.sync.ledger.Share as Share
use Rattle.std.specs.contracts.impls.GlobalAllocator.TheImpl.{ghosts}
use Rattle.atomic_table.proofs.owned.Table.TheSendSync as table
use Rattle.atomic_table.proofs.shared.Seat.TheSendSync as pass
use Rattle.atomic_table.specs.contracts.owned.Table as Table
use Rattle.atomic_table.specs.contracts.shared.Seat as Pass
use Rattle.gu_base.proofs.entry.Entry.TheSendSync as entry
use Rattle.gu_base.specs.contracts.entry.Entry as Entry
use Rattle.gu_book.specs.contracts.book.Book as Book
use Rattle.gu_trace.proofs.Crossing.{indexed_send}
use Rattle.gu_desk.specs.contracts.count.CountRuleTableRuleEntryPassViewBook.TheImpl as rule
use Rattle.gu_desk.specs.contracts.count.CountRule as CountRule
use Rattle.gu_desk.specs.contracts.count.PassView as PassView
use Rattle.gu_desk.specs.declared.seat.Job as named
use Rattle.gu_desk.specs.contracts.journal.JournalSeat as JournalSeat
use Rattle.gu_desk.specs.contracts.seat.Seat as Seat
use Rattle.gu_desk.specs.contracts.ticket.Ticket as Ticket
use Rattle.gu_desk.specs.contracts.till.Till as Till
use Rattle.gu_desk.specs.contracts.desk.Desk as Desk

pass_send : IsSend (Pass.the_row Entry.the_row PassView.the_row)
pass_send = pass.the_send Entry.the_row PassView.the_row entry.the_send

abbrev words : RattleType
words = Table.the_row Entry.the_row PassView.the_row Book.the_row CountRule.the_row heap.the_row rule.ghosts ghosts

words_send : IsSend words
words_send =
    table.the_send Entry.the_row PassView.the_row Book.the_row CountRule.the_row heap.the_row rule.ghosts ghosts
    entry.the_send heap_send frees

words_sync : IsSync words
words_sync =
    table.the_sync Entry.the_row PassView.the_row Book.the_row CountRule.the_row heap.the_row rule.ghosts ghosts
    entry.the_send heap_send heap_sync frees

count_send : IsSend (Arc.the_row words heap.the_row ghosts)
count_send = Arc-send words words_send words_sync

count_sync : IsSync (Arc.the_row words heap.the_row ghosts)
count_sync = Arc-sync words words_send words_sync

pub journal_send : (job : RattleType) (n : named.Ghosts job.Denot) (l : ledger.Ghosts job.Denot)
    → IsSend (JournalSeat.the_row job n l)
journal_send job n l = search (pass_send, sendable) depth 12

pub ticket_send : (job : RattleType) (n : named.Ghosts job.Denot) (l : ledger.Ghosts job.Denot)
    → IsSend (Ticket.the_row job n l)
ticket_send job n l = search (pass_send, sendable) depth 12

pub seat_send : (job : RattleType) (n : named.Ghosts job.Denot) (l : ledger.Ghosts job.Denot)
    → IsSend (Seat.the_row job n l)
seat_send job n l = search (share.the_send, pass_send, sendable) depth 12

-- written by hand, field by field, since `search` doesn't find the rows of five fields
till_send : (job : RattleType) (n : named.Ghosts job.Denot) (l : ledger.Ghosts job.Denot)
    → IsSend (Till.the_row job n l)
till_send job n l =
    let counted : IsSend (Total.the_row job l) = search (total.the_send, sendable) depth 6 in
    let part : IsSend (Share.the_row job l) = search (share.the_send, sendable) depth 6 in
    record {
      owned = λ d vs t. (
        (λ vss. (
          tt,
          (
            indexed_send.owned t.0.book vss.0,
            (
              counted.owned t.0.total vss.1.0,
              (
                part.owned t.0.opening vss.1.1.0,
                (count_send.owned t.0.count vss.1.1.1.0, (pass_send.owned t.0.pass vss.1.1.1.1.0, tt)),
              ),
            ),
          ),
        )),
        tt,
      );
      leaving = λ k t w. tt;
    }

pub desk_sync : (job : RattleType) (n : named.Ghosts job.Denot) (l : ledger.Ghosts job.Denot)
    → IsSync (Desk.the_row job n l)
desk_sync job n l = search (till_send, count_sync, crosses, sendable) depth 12
