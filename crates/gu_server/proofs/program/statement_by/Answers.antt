use Rattle.std.proofs.Common.{◌∙◌, sym, rules}
use Rattle.gu_server.proofs.Served.{stopped}
use Rattle.gu_server.proofs.Stated.{stated_by, streamed_by, unknown_by}
use Rattle.gu_server.proofs.program.statement_by.Goals as goal

-- the house file is at fault
pub returns-in-Err-clause-does : goal.returns-in-Err-clause-does
returns-in-Err-clause-does g c words is asked firm_is journal_is =
    stopped words _ (g.F.JournalFiles.journal_at c.args.files.now)
    (g.F.JournalFiles.is_copied c.args.files.now) c.as_str-path.result.now _ c.in-Err.fault (search (rules, asked))
    c.in-Err.ensures.fault

-- the house table lacks the firm
pub returns-in-Err-whose_of-clause-does : goal.returns-in-Err-whose_of-clause-does
returns-in-Err-whose_of-clause-does g c words is asked firm_is journal_is =
    unknown_by words _ (g.F.JournalFiles.journal_at c.args.files.now)
    (g.F.JournalFiles.is_copied c.args.files.now) _ _ c.in-Err-whose_of.fault
    (record {
      path = c.as_str-path.result.now;
      is = is;
      asked = search (rules, asked);
      house = c.in-Ok.house.house;
      named = c.in-Ok.ensures.named.0;
    }) firm_is c.in-Err-whose_of.ensures.unknown

-- the book is a journal's
pub returns-in-Some-clause-does : goal.returns-in-Some-clause-does
returns-in-Some-clause-does g c words is asked firm_is journal_is =
    stated_by words _ _ (g.F.JournalFiles.is_copied c.args.files.now) _ c.in-Some.journal.bytes.items
    _ _ _ _ _ _ _ c.state_journal.result c.in-Ok.house.pin.bytes
    (record {
      path = c.as_str-path.result.now;
      is = is;
      asked = search (rules, asked);
      house = c.in-Ok.house.house;
      named = c.in-Ok.ensures.named.0;
    }) c.in-Ok.ensures.named.1 (firm_is ∙ sym c.in-Ok-whose_of.ensures.same) (search (rules, journal_is))
    c.in-Ok-whose_of.ensures.known (search (rules, c.state_journal.ensures))

-- the book is the one behind what was read
pub returns-clause-does : goal.returns-clause-does
returns-clause-does g c words is asked firm_is journal_is =
    streamed_by words _ (g.F.JournalFiles.journal_at c.args.files.now) (g.F.JournalFiles.is_copied c.args.files.now) _
    _ _ c.state_stream.result c.in-Ok.house.pin.bytes
    (record {
      path = c.as_str-path.result.now;
      is = is;
      asked = search (rules, asked);
      house = c.in-Ok.house.house;
      named = c.in-Ok.ensures.named.0;
    }) c.in-Ok.ensures.named.1 (firm_is ∙ sym c.in-Ok-whose_of.ensures.same) (search (rules, journal_is))
    c.in-Ok-whose_of.ensures.known c.state_stream.ensures
