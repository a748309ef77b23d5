use Rattle.std.proofs.Common.{ap, length, arith}
use Rattle.gu_base.specs.History.{live}
use Rattle.gu_statement.specs.Control.{entry_counts}
use Rattle.gu_statement.proofs.Counting.{goes_on, all_of}
use Rattle.gu_statement.proofs.sheet.Sheet.entry_count.Goals as goal

pub loop-place-preserved : goal.loop-place-preserved
loop-place-preserved c =
    let book = c.args.self.now.book.now in
    goes_on (entry_counts book.house book.history c.args.self.now.whose) book.history c.loop-place.place _ _ _
    (omega (arith, c.loop-place-test.true, ap length c.entries-place-end.ensures.value)) c.loop-place.invariant
    c.entry_at.ensures c.in_ok-total.ensures

pub returns : goal.returns
returns c =
    let book = c.args.self.now.book.now in
    all_of (entry_counts book.house book.history c.args.self.now.whose) book.history c.loop-place.place _
    (omega (arith, c.loop-place-test.false, ap length c.entries-place-end.ensures.value)) c.loop-place.invariant
