use Rattle.std.proofs.Common.{ℕ}
use Rattle.gu_connection.specs.Conversing.{Converses, talk_of}
use Rattle.gu_connection.specs.declared.worker.Left.TheVariants.{Nothing}
use Rattle.gu_connection.proofs.worker.Worker.converse.Given as goal

abbrev pub invariant-loop : goal.invariant-loop
invariant-loop g l =
    (n : ℕ) × Converses g.J.Job.opening
    (talk_of l.initial.seat l.initial.connection (g.S.Read.remaining l.initial.reader)
    (g.W.Write.contents l.initial.writer) Nothing)
    n (talk_of l.seat l.connection (g.S.Read.remaining l.reader) (g.W.Write.contents l.writer) l.left)
