use Rattle.std.proofs.Common.{ℕ}
use Rattle.gu_desk.specs.Begins.{BeginsWith}
use Rattle.gu_connection.specs.Standing.{stands}
use Rattle.gu_connection.specs.Talks.{Talks}
use Rattle.gu_connection.proofs.worker.Worker.messages.Given as goal

abbrev pub invariant-loop-count : goal.invariant-loop-count
invariant-loop-count g l = record {
  later : BeginsWith l.seat.seen l.initial.seat.seen;
  talks : (n : ℕ) × Talks g.J.Job.opening (stands l.initial.seat l.initial.connection) n
      (stands l.seat l.connection);
}
