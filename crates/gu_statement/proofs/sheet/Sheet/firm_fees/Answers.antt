use Rattle.std.proofs.Common.{ap, length, arith}
use Rattle.gu_base.specs.History.{live}
use Rattle.gu_statement.specs.Control.{fees_seen}
use Rattle.gu_statement.proofs.Counting.{goes_on, all_of}
use Rattle.gu_statement.proofs.sheet.Sheet.firm_fees.Goals as goal

pub loop-place-preserved : goal.loop-place-preserved
loop-place-preserved c =
    let book = c.args.self.now.book.now in
    goes_on (fees_seen book.house (live book.history) c.args.self.now.whose c.args.pays)
    book.house.firms c.loop-place.place _ _ _
    (omega (arith, c.loop-place-test.true, rw c.house-house.ensures at c.firm_count-place-end.ensures))
    c.loop-place.invariant
    c.fees_at.ensures c.in_ok-total.ensures

pub returns : goal.returns
returns c =
    let book = c.args.self.now.book.now in
    all_of (fees_seen book.house (live book.history) c.args.self.now.whose c.args.pays)
    book.house.firms c.loop-place.place _
    (omega (
      arith,
      c.loop-place-test.false,
      rw c.house-house.ensures at
          c.firm_count-place-end.ensures,
    )) c.loop-place.invariant
