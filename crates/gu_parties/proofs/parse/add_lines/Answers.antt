use Rattle.std.proofs.Common.{arith, map}
use Rattle.gu_parties.specs.Words.{words, lines}
use Rattle.gu_parties.proofs.LinesRead.{reads_none, reads_more, reads_stop, within_last}
use Rattle.gu_parties.proofs.parse.add_lines.Goals as goal

pub loop-here-init : goal.loop-here-init
loop-here-init c =
    (rw c.requires.alone (reads_none c.args.house.now.house (map words (lines c.args.text.now))), omega arith)

pub returns-in-Err : goal.returns-in-Err
returns-in-Err c =
    reads_stop c.args.house.now.house (lines c.args.text.now) c.in-Some.here.now
    (map words (lines c.in-Some.behind.now)) c.loop-here.line c.loop-here.house
    (rw c.in-Some.ensures.lines at c.loop-here.invariant.0) c.in-Err.cause (within_last _ c.if-line-gt-MAX_LINES.false)
    c.in-Err.ensures.does

pub loop-here-preserved : goal.loop-here-preserved
loop-here-preserved c = (
  reads_more c.args.house.now.house (lines c.args.text.now) c.in-Some.here.now (map words (lines c.in-Some.behind.now))
      c.loop-here.line c.loop-here.house (rw c.in-Some.ensures.lines at c.loop-here.invariant.0) _
      (within_last _ c.if-line-gt-MAX_LINES.false) c.in-Ok.ensures.does,
  omega arith,
)
