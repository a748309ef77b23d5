use Rattle.std.proofs.Common.{◌≡◌, rules, inl, inr}
use Rattle.sha2.specs.Sha256.{sha256}
use Rattle.gu_server.proofs.Served.{verified_by, unverified_by, stopped}
use Rattle.gu_server.proofs.program.verify_by.Goals as goal

-- what a start would say of a journal was written
pub returns-in-Ok-verify-clause-does : goal.returns-in-Ok-verify-clause-does
returns-in-Ok-verify-clause-does g c words left made failed is asked at flag meant =
    let text = c.read_pinned.new.text.items in
    let same : c.of-pin.result.bytes ≡ sha256 text = search (rules, c.of-pin.ensures) in
    inr (inr (inr (inr (inl (verified_by words _ _ left made failed _ _ _ _ _ c.of-pin.result.bytes
    c.args.look.now.journal.bytes.items c.args.look.now.totals c.args.look.now.trade
    (record {
      path = c.args.path.now;
      is = is;
      asked = asked;
      house = c.in-Ok.house;
      named = (text, c.in-Ok.ensures.text.0, c.in-Ok.ensures.text.1);
    }) same at flag meant c.in-Ok-verify.ensures)))))

-- it can't be told
pub returns-in-Err-verify-clause-does : goal.returns-in-Err-verify-clause-does
returns-in-Err-verify-clause-does g c words left made failed is asked at flag meant =
    let text = c.read_pinned.new.text.items in
    let same : c.of-pin.result.bytes ≡ sha256 text = search (rules, c.of-pin.ensures) in
    unverified_by words _ (g.F.JournalFiles.journal_at c.args.files.now)
    (g.F.JournalFiles.is_copied c.args.files.now) left made failed _ _ _ _ c.in-Err-verify.error _ c.of-pin.result.bytes
    c.args.look.now.journal.bytes.items c.args.look.now.totals c.args.look.now.trade
    (record {
      path = c.args.path.now;
      is = is;
      asked = asked;
      house = c.in-Ok.house;
      named = (text, c.in-Ok.ensures.text.0, c.in-Ok.ensures.text.1);
    }) same at flag meant c.in-Err-verify.ensures c.into_fault.ensures

-- the house file is at fault
pub returns-in-Err-clause-does : goal.returns-in-Err-clause-does
returns-in-Err-clause-does g c words left made failed is asked at flag meant =
    stopped words _ (g.F.JournalFiles.journal_at c.args.files.now)
    (g.F.JournalFiles.is_copied c.args.files.now) c.args.path.now _ c.in-Err.fault asked c.in-Err.ensures.reads
