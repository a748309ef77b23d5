use Rattle.std.proofs.Common.{ap, length, arith}
use Rattle.gu_base.specs.History.{live}
use Rattle.gu_statement.specs.Control.{lots_at}
use Rattle.gu_statement.proofs.Counting.{goes_on, all_of}
use Rattle.gu_statement.proofs.sheet.Sheet.instrument_lots.Goals as goal

pub loop-place-preserved : goal.loop-place-preserved
loop-place-preserved c =
    let book = c.args.self.now.book.now in
    goes_on (lots_at (live book.history) c.args.side c.args.account.now) book.house.instruments
    c.loop-place.place _ _ _
    (omega (
      arith,
      c.loop-place-test.true,
      rw c.house-house.ensures at
          c.instrument_count-place-end.ensures,
    )) c.loop-place.invariant
    c.lots_at.ensures c.in_ok-total.ensures

pub returns : goal.returns
returns c =
    let book = c.args.self.now.book.now in
    all_of (lots_at (live book.history) c.args.side c.args.account.now) book.house.instruments c.loop-place.place _
    (omega (
      arith,
      c.loop-place-test.false,
      rw c.house-house.ensures at
          c.instrument_count-place-end.ensures,
    )) c.loop-place.invariant
