use Rattle.std.proofs.Common.{inr, refl}
use Rattle.gu_server.proofs.Served.{traced}
use Rattle.gu_server.proofs.program.trace_by.Goals as goal

-- the trace was told to its end
pub returns-in-Ok-run_trace-clause-does : goal.returns-in-Ok-run_trace-clause-does
returns-in-Ok-run_trace-clause-does g c words is asked meant =
    traced words _ (g.F.JournalFiles.journal_at c.args.files.now)
    (g.F.JournalFiles.is_copied c.args.files.now) c.args.path.now c.args.trade c.in-Ok.house _ _ _ is asked meant
    c.in-Ok.ensures
    c.in-Ok-run_trace.ensures

-- the trace ended with an error, which the fault tells
pub returns-in-Err-run_trace-clause-does : goal.returns-in-Err-run_trace-clause-does
returns-in-Err-run_trace-clause-does g c words is asked meant =
    inr (
      c.in-Err-run_trace.error,
      refl,
      traced words _ (g.F.JournalFiles.journal_at c.args.files.now)
          (g.F.JournalFiles.is_copied c.args.files.now) c.args.path.now c.args.trade c.in-Ok.house _ _ _ is asked meant
          c.in-Ok.ensures
          c.in-Err-run_trace.ensures,
    )
