use Rattle.std.proofs.Common.{ap, length, arith}
use Rattle.gu_base.specs.History.{live}
use Rattle.gu_base.specs.declared.entry.Record.{Record}
use Rattle.gu_statement.specs.Control.{trade_counts}
use Rattle.gu_statement.proofs.Counting.{goes_on, all_of, as_long}
use Rattle.gu_statement.proofs.sheet.Sheet.trade_count.Goals as goal

pub loop-place-preserved : goal.loop-place-preserved
loop-place-preserved c =
    let book = c.args.self.now.book.now in
    goes_on (trade_counts c.args.self.now.whose) (live book.history) c.loop-place.place _ _ _
    (omega (
      arith,
      c.loop-place-test.true,
      as_long (λ (r : Record). r.number) c.args.self.now.live.now
          (live book.history) c.requires,
    )) c.loop-place.invariant
    c.trade_at.ensures c.in_ok-total.ensures

pub returns : goal.returns
returns c =
    let book = c.args.self.now.book.now in
    all_of (trade_counts c.args.self.now.whose) (live book.history) c.loop-place.place _
    (omega (
      arith,
      c.loop-place-test.false,
      as_long (λ (r : Record). r.number) c.args.self.now.live.now
          (live book.history) c.requires,
    )) c.loop-place.invariant
