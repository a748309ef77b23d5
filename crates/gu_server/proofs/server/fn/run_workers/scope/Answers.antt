use denote.Param.Send.{IsSend, IsSync, param_send, sendable}
use denote.Ref.{ShrRef}
use mir.Syntax.{named}
use Rattle.std.proofs.Crossing.{crosses, send as heap_send}
use Rattle.std.specs.contracts.alloc.Global as heap
use Rattle.std.specs.contracts.impls.GlobalAllocator.TheImpl.{ghosts}
use Rattle.std.specs.contracts.net.tcp.TcpStream as Stream
use Rattle.std.specs.contracts.option.Option.{the_row as OptionOf}
use Rattle.std.proofs.net.tcp.TcpStream.TheSendSync as stream
use Rattle.crossbeam_channel.specs.contracts.channel.Receiver as Receiver
use Rattle.crossbeam_channel.proofs.channel.Receiver.TheSendSync as receiver
use Rattle.gu_desk.proofs.Crossing.{desk_sync, seat_send}
use Rattle.gu_parties.proofs.house.House.TheSendSync as house
use Rattle.gu_command.proofs.naming.NamedBook.TheSendSync as naming
use Rattle.gu_command.specs.contracts.naming.NamedBook as NamedBook
use Rattle.gu_board.proofs.tallies.Tallies.TheSendSync as tallies
use Rattle.gu_server.proofs.server.fn.run_workers.scope.Lts.{arg-11-1}
use Rattle.gu_server.proofs.server.fn.run_workers.scope.Goals as goal

-- A worker may go to another thread with its seat and its end of the channel, since each thing that it has may: in
-- their order the runtime, the allocator, the desk, the house table, the book, the gate, the tallies, how long it waits
-- for a Logon and its number. Written by hand, as `search` doesn't find a row behind a type that is an argument.
pub spawn-requires-send-F : goal.spawn-requires-send-F
spawn-requires-send-F g c κs within =
    let by : IsSync g.row.R = c.requires.1.1.1.2 in
    let gate : IsSync g.row.G = c.requires.1.1.1.3 in
    let seat = seat_send g.row.J g.J.Job g.J.Ledger in
    let desk = desk_sync g.row.J g.J.Job g.J.Ledger in
    let book : (ℓ : _) (κ : _) → IsSend (OptionOf (ShrRef ℓ κ NamedBook.the_row)) =
    λ ℓ κ. search (naming.the_sync, crosses, sendable) depth 12 in
    let end : IsSend (Receiver.the_row Stream.the_row heap.the_row ghosts) =
    search (receiver.the_send, stream.the_send, crosses, sendable) depth 12 in
    param_send 1
    (arg-11-1 g.row.J g.row.R g.row.G g.J.laws g.R.laws g.G.laws g.J.Job g.J.Job-dict g.J.Ledger g.J.Ledger-dict
    g.R.Threads g.R.Threads-dict g.R.Wait g.R.Wait-dict g.R.Clock g.R.Clock-dict g.G.Gate g.G.Gate-dict κs)
    (record {
      owned = λ d vs vss. (
        tt,
        (
          (λ wss. (
            tt,
            (
              (tt, by.shared d.0.rt.now d.0.rt.ref_ptr.0 d.0.rt.ref_ptr.1 _),
              (
                heap_send.owned d.0.alloc wss.1.0,
                (
                  (tt, desk.shared d.0.desk.now d.0.desk.ref_ptr.0 d.0.desk.ref_ptr.1 _),
                  (
                    (tt, house.the_sync.shared d.0.house.now d.0.house.ref_ptr.0 d.0.house.ref_ptr.1 _),
                    (
                      (book (named 0) _).owned d.0.book wss.1.1.1.1.0,
                      (
                        (tt, gate.shared d.0.gate.now d.0.gate.ref_ptr.0 d.0.gate.ref_ptr.1 _),
                        (
                          (
                            tt,
                            tallies.the_sync.shared d.0.tallies.now d.0.tallies.ref_ptr.0 d.0.tallies.ref_ptr.1 _,
                          ),
                          ((tt, tt), ((tt, tt), tt)),
                        ),
                      ),
                    ),
                  ),
                ),
              ),
            ),
          )),
          (seat.owned d.1 vss.1.0, (end.owned d.2 vss.1.1.0, tt)),
        ),
      );
      leaving = λ k x w. (tt, (tt, (tt, tt)));
    })
