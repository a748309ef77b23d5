-- The book may go to another thread: what it owns says the same to each.
use Rattle.gu_base.proofs.numbers.Number.TheSendSync as number
use Rattle.gu_book.proofs.lookups.Reversals.TheSendSync as reversals
use Rattle.gu_book.specs.contracts.book.Book as Book
use Rattle.gu_consent.proofs.Consents.TheSendSync as consents
use Rattle.gu_fees.proofs.fees.Fees.TheSendSync as fees
use Rattle.gu_fees.proofs.terms.Terms.TheSendSync as terms
use Rattle.gu_ids.proofs.history.History.TheSendSync as history
use Rattle.gu_parties.proofs.house.House.TheSendSync as house
use Rattle.gu_positions.proofs.positions.Positions.TheSendSync as positions
use Rattle.gu_sums.proofs.filing.Filing.TheSendSync as filing
use Rattle.gu_tree.proofs.head.Head.TheSendSync as head
use Rattle.gu_tree.proofs.node.Node.TheLaws.TheKnot as knot
use Rattle.gu_tree.proofs.slot.Named.TheSendSync as named
use Rattle.gu_tree.specs.contracts.node.Node as Node
use Rattle.gu_tree.specs.contracts.tree.Tree as Tree
use Rattle.gu_tree.specs.contracts.trees.Trees as Trees
use Rattle.std.specs.contracts.alloc.Global as heap
use denote.Param.Send.{IsSend, sendable}
use Rattle.std.{proofs.Crossing.crosses, specs.contracts.impls.GlobalAllocator.TheImpl.ghosts}

node_send : IsSend (Node.the_row heap.the_row ghosts)
node_send = search (knot.send-Node, head.the_send, number.the_send, crosses, sendable) depth 12

tree_send : IsSend (Tree.the_row heap.the_row ghosts)
tree_send = search (node_send, crosses, sendable) depth 12

trees_send : IsSend (Trees.the_row heap.the_row ghosts)
trees_send = search (tree_send, named.the_send, filing.the_send, crosses, sendable) depth 14

pub book_send : IsSend Book.the_row
book_send =
    search (
      house.the_send,
      trees_send,
      consents.the_field_send,
      history.the_send,
      reversals.the_field_send,
      fees.the_send,
      positions.the_send,
      terms.the_send,
      crosses,
      sendable,
    )
    depth 20
