use Rattle.std.proofs.Common.{rules}
use Rattle.gu_server.proofs.Served.{kept_by, stopped}
use Rattle.gu_server.proofs.program.keep_by.Goals as goal

-- firms were served of a book that is kept
pub returns-in-Ok-clause-does : goal.returns-in-Ok-clause-does
returns-in-Ok-clause-does g c words left made failed is asked =
    kept_by words _ (g.F.JournalFiles.journal_at c.args.files.now)
    (g.F.JournalFiles.is_copied c.args.files.now) left made failed _ _ _ _ c.keep_watched.result
    (record {
      path = c.as_str.result.now;
      is = is;
      asked = search (rules, asked);
      house = c.in-Ok.table;
      named = c.in-Ok.ensures.reads;
    }) c.keep_watched.ensures

-- the house file is at fault
pub returns-in-Err-clause-does : goal.returns-in-Err-clause-does
returns-in-Err-clause-does g c words left made failed is asked =
    stopped words _ (g.F.JournalFiles.journal_at c.args.files.now)
    (g.F.JournalFiles.is_copied c.args.files.now) c.as_str.result.now _ c.in-Err.fault
    (search (rules, asked)) c.in-Err.ensures.reads
