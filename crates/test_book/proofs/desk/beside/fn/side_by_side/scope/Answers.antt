use contract.Lifetimes.{Lfts}
use denote.Param.{param}
use denote.Param.Send.{IsSend, IsSync, param_send, sendable}
use Rattle.std.proofs.Crossing.{crosses, send as heap_send}
use Rattle.std.specs.contracts.sync.Mutex as Mutex
use Rattle.gu_desk.proofs.Crossing.{desk_sync, seat_send}
use Rattle.test_book.specs.contracts.desk.holding.Turns as Turns
use Rattle.test_book.proofs.desk.holding.Turns.TheSendSync as turns
use Rattle.test_book.proofs.desk.working.Task.TheSendSync as task
use Rattle.test_book.proofs.desk.beside.fn.side_by_side.scope.Given.{Over}
use Rattle.test_book.proofs.desk.beside.fn.side_by_side.scope.Lts.{arg-0-1}
use Rattle.test_book.proofs.desk.beside.fn.side_by_side.scope.Goals as goal

-- The first worker may go to another thread, since each thing that it takes along may: in their order the runtime, the
-- allocator, the desk, its seat, what the gate counts, and its task. Written by hand, as `search` doesn't find a row
-- behind a type that is an argument.
led_send : (g : Over) (κs : Lfts 9) → IsSync g.row.R
    → IsSend (param 1
    (arg-0-1 g.row.J g.row.R g.J.laws g.R.laws g.J.Job g.J.Job-dict g.J.Ledger g.J.Ledger-dict g.R.Threads
    g.R.Threads-dict g.R.Wait g.R.Wait-dict g.R.Clock g.R.Clock-dict g.R.Eprint g.R.Eprint-dict κs))
led_send g κs by =
    let seat = seat_send g.row.J g.J.Job g.J.Ledger in
    let desk = desk_sync g.row.J g.J.Job g.J.Ledger in
    let counted : IsSend Turns.the_row = turns.the_send in
    let lock : IsSync (Mutex.the_row Turns.the_row) = search (counted, crosses, sendable) depth 6 in
    param_send 1
    (arg-0-1 g.row.J g.row.R g.J.laws g.R.laws g.J.Job g.J.Job-dict g.J.Ledger g.J.Ledger-dict g.R.Threads
    g.R.Threads-dict g.R.Wait g.R.Wait-dict g.R.Clock g.R.Clock-dict g.R.Eprint g.R.Eprint-dict κs)
    (record {
      owned = λ d vs vss. (
        tt,
        (
          (tt, by.shared d.0.now d.0.ref_ptr.0 d.0.ref_ptr.1 _),
          (
            heap_send.owned d.1 vss.1.0,
            (
              (tt, desk.shared d.2.now d.2.ref_ptr.0 d.2.ref_ptr.1 _),
              (
                seat.owned d.3 vss.1.1.1.0,
                (
                  (tt, lock.shared d.4.now d.4.ref_ptr.0 d.4.ref_ptr.1 _),
                  ((tt, task.the_sync.shared d.5.now d.5.ref_ptr.0 d.5.ref_ptr.1 _), tt),
                ),
              ),
            ),
          ),
        ),
      );
      leaving = λ k x w. (tt, (tt, (tt, (tt, tt))));
    })

pub spawn-requires-send-F : goal.spawn-requires-send-F
spawn-requires-send-F g c κs within = led_send g κs c.requires.1.1.2

pub spawn-requires-in-Err-send-F : goal.spawn-requires-in-Err-send-F
spawn-requires-in-Err-send-F g c κs within = led_send g κs c.requires.1.1.2
