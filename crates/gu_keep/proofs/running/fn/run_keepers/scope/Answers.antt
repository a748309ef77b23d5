use denote.Builtin.{u8}
use denote.Param.{param}
use denote.Param.Send.{IsSend, IsSync, param_send, sendable}
use denote.Ref.{ShrRef}
use mir.Syntax.{named}
use Rattle.std.proofs.Crossing.{crosses, send as heap_send, Vec-send}
use Rattle.std.specs.contracts.alloc.Global as heap
use Rattle.std.specs.contracts.option.Option.{the_row as OptionOf}
use Rattle.std.specs.contracts.vec.Vec as Vec
use Rattle.std.specs.contracts.impls.GlobalAllocator.TheImpl.{ghosts}
use Rattle.std.specs.contracts.net.tcp.TcpStream as Stream
use Rattle.std.specs.contracts.sync.Mutex as Mutex
use Rattle.std.specs.contracts.time.Instant as Instant
use Rattle.std.proofs.net.tcp.TcpStream.TheSendSync as stream
use Rattle.crossbeam_channel.specs.contracts.channel.Receiver as Receiver
use Rattle.crossbeam_channel.proofs.channel.Receiver.TheSendSync as receiver
use Rattle.mio.proofs.poll.Poll.TheSendSync as poll
use Rattle.gu_desk.proofs.Crossing.{desk_sync, seat_send, journal_send}
use Rattle.gu_parties.proofs.house.House.TheSendSync as house
use Rattle.gu_command.proofs.naming.NamedBook.TheSendSync as naming
use Rattle.gu_command.specs.contracts.naming.NamedBook as NamedBook
use Rattle.gu_board.proofs.tallies.Tallies.TheSendSync as tallies
use Rattle.gu_keep.proofs.bells.Bells.TheSendSync as bells
use Rattle.gu_keep.proofs.bells.Bell.TheSendSync as bell
use Rattle.gu_recorder.specs.contracts.recorder.Recorder as Recorder
use Rattle.gu_keep.proofs.running.fn.run_keepers.scope.Lts.{arg-14-1}
use Rattle.gu_keep.proofs.running.fn.run_keepers.scope.Goals as goal

-- A keeper may go to another thread with its poll and its seat, since each thing that it has may: its worker's, in
-- their order the runtime, the allocator, the desk, the house table, the book, the gate, the tallies, how long it
-- waits for a Logon and its number; the recorder, all bells, its own, and its end of the channel.
pub spawn-requires-send-F : goal.spawn-requires-send-F
spawn-requires-send-F g c κs within =
    let journal : IsSend g.row.K = c.requires.1.1.1.1.0 in
    let by : IsSync g.row.R = c.requires.1.1.1.1.3 in
    let gate : IsSync g.row.G = c.requires.1.1.1.1.4 in
    let seat = seat_send g.row.J g.J.Job g.J.Ledger in
    let desk = desk_sync g.row.J g.J.Job g.J.Ledger in
    let part = journal_send (param 1 g.row.J) g.J.Job g.J.Ledger in
    let kept : IsSend (param 0 g.row.K) = param_send 0 g.row.K journal in
    let room : IsSend (Vec.the_row u8 heap.the_row ghosts) = Vec-send u8 (search sendable) in
    let moment : IsSend (OptionOf Instant.the_row) = search (crosses, sendable) depth 12 in
    let book : (ℓ : _) (κ : _) → IsSend (OptionOf (ShrRef ℓ κ NamedBook.the_row)) =
    λ ℓ κ. search (naming.the_sync, crosses, sendable) depth 12 in
    let recorded : IsSend
    (Recorder.the_row (param 0 g.row.K) (param 1 g.row.J) g.K.OpenJournal g.K.Keeps g.J.Job g.J.Ledger) =
    record {
      owned = λ d vs t. (
        (λ vss. (
          tt,
          (
            kept.owned t.0.journal vss.0,
            (
              part.owned t.0.seat vss.1.0,
              (tt, (room.owned t.0.room vss.1.1.1.0, (tt, (moment.owned t.0.since vss.1.1.1.1.1.0, tt)))),
            ),
          ),
        )),
        tt,
      );
      leaving = λ k t w. tt;
    } in
    let recorder : IsSync
    (Mutex.the_row
    (Recorder.the_row (param 0 g.row.K) (param 1 g.row.J) g.K.OpenJournal g.K.Keeps g.J.Job g.J.Ledger)) =
    search (recorded, crosses, sendable) depth 12 in
    let end : IsSend (Receiver.the_row Stream.the_row heap.the_row ghosts) =
    search (receiver.the_send, stream.the_send, crosses, sendable) depth 12 in
    param_send 1
    (arg-14-1 g.row.K g.row.J g.row.R g.row.G g.K.laws g.J.laws g.R.laws g.G.laws g.K.OpenJournal
    g.K.OpenJournal-dict g.K.Keeps g.K.Keeps-dict g.J.Job g.J.Job-dict g.J.Ledger g.J.Ledger-dict
    g.R.Threads g.R.Threads-dict g.R.Wait g.R.Wait-dict
    g.R.Clock g.R.Clock-dict g.G.Gate g.G.Gate-dict κs)
    (record {
      owned = λ d vs vss. (
        tt,
        (
          (λ wss. (
            tt,
            (
              (λ uss. (
                tt,
                (
                  (tt, by.shared d.0.worker.rt.now d.0.worker.rt.ref_ptr.0 d.0.worker.rt.ref_ptr.1 _),
                  (
                    heap_send.owned d.0.worker.alloc uss.1.0,
                    (
                      (tt, desk.shared d.0.worker.desk.now d.0.worker.desk.ref_ptr.0 d.0.worker.desk.ref_ptr.1 _),
                      (
                        (
                          tt,
                          house.the_sync.shared d.0.worker.house.now d.0.worker.house.ref_ptr.0
                              d.0.worker.house.ref_ptr.1 _,
                        ),
                        (
                          (book (named 0) _).owned d.0.worker.book uss.1.1.1.1.0,
                          (
                            (
                              tt,
                              gate.shared d.0.worker.gate.now d.0.worker.gate.ref_ptr.0 d.0.worker.gate.ref_ptr.1 _,
                            ),
                            (
                              (
                                tt,
                                tallies.the_sync.shared d.0.worker.tallies.now d.0.worker.tallies.ref_ptr.0
                                    d.0.worker.tallies.ref_ptr.1 _,
                              ),
                              ((tt, tt), ((tt, tt), tt)),
                            ),
                          ),
                        ),
                      ),
                    ),
                  ),
                ),
              )),
              (
                (tt, recorder.shared d.0.recorder.now d.0.recorder.ref_ptr.0 d.0.recorder.ref_ptr.1 _),
                (
                  (tt, bells.the_sync.shared d.0.bells.now d.0.bells.ref_ptr.0 d.0.bells.ref_ptr.1 _),
                  (
                    (tt, bell.the_sync.shared d.0.bell.now d.0.bell.ref_ptr.0 d.0.bell.ref_ptr.1 _),
                    (end.owned d.0.streams wss.1.1.1.1.0, tt),
                  ),
                ),
              ),
            ),
          )),
          (poll.the_send.owned d.1 vss.1.0, (seat.owned d.2 vss.1.1.0, tt)),
        ),
      );
      leaving = λ k x w. ((tt, (tt, (tt, (tt, (tt, tt))))), (tt, (tt, tt)));
    })
