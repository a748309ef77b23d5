use Rattle.std.proofs.Common.{arith}
use Rattle.gu_codec.proofs.Streams.{front_len}
use Rattle.gu_batch.proofs.ReadSoFar.{memory_first, none_read_yet, numbered_with, short_with, after_nothing}
use Rattle.gu_batch.proofs.ReadSoFar.{after_bytes, fault_right, limit_right, end_as, piece_right}
use Rattle.gu_batch.proofs.batch.answer_reads.Goals.{in-Nothing, in-Bytes+in-Ok-answer_read}
use Rattle.gu_batch.proofs.batch.answer_reads.Goals as goal

pub returns-in_default : goal.returns-in_default
returns-in_default g c = memory_first c.args.answering.now.house _

pub reads-init : goal.reads-init
reads-init g c =
    none_read_yet _ c.args.answering.now c.in-Ok.feed c.requires.fresh c.in-Ok.ensures.0 c.in-Ok.ensures.1
    c.in-Ok.ensures.2

pub fill-requires-clause-room : goal.fill-requires-clause-room
fill-requires-clause-room g c = front_len c.reads.feed.held c.reads.invariant.front

pub answer_read-requires-clause-numbered : goal.answer_read-requires-clause-numbered
answer_read-requires-clause-numbered g c =
    numbered_with c.args.answering.now.house _ _ c.reads.answering c.reads.feed c.fill.new.feed c.reads.total
    c.reads.counter _ _ c.in-Bytes.count c.reads.invariant c.in-Bytes.ensures.fills

pub answer_read-requires-clause-short : goal.answer_read-requires-clause-short
answer_read-requires-clause-short g c =
    short_with c.args.answering.now.house _ _ c.reads.answering c.reads.feed c.fill.new.feed c.reads.total
    c.reads.counter _ _ c.in-Bytes.count c.reads.invariant c.in-Bytes.ensures.fills (omega arith)

pub returns-in-Fault : goal.returns-in-Fault
returns-in-Fault g c =
    fault_right c.args.answering.now.house _ _ c.reads.answering c.reads.feed c.fill.new.feed c.reads.total
    c.reads.counter _ _ _ c.reads.invariant c.in-Fault.ensures.fills

pub returns-in-End : goal.returns-in-End
returns-in-End g c =
    end_as c.args.answering.now.house _ _ c.reads.answering c.reads.feed c.fill.new.feed c.reads.total c.reads.counter _
    _ _ c.end_of.result c.reads.invariant c.in-End.ensures.fills c.end_of.ensures

pub returns-in-Err : goal.returns-in-Err
returns-in-Err g c =
    piece_right c.args.answering.now.house _ _ c.reads.answering c.reads.feed c.fill.new.feed c.reads.total
    c.reads.counter c.in-Bytes.count _ _ _ _ _ _ c.in-Err.e c.reads.invariant c.in-Bytes.ensures.fills
    c.in-Err.ensures.right c.in-Err.ensures.appended

pub reads-preserved : goal.reads-preserved
reads-preserved g c =
    elim c.match-fill.branch [
      | in-Nothing w ↦
          rw (w.writer-is, w.feed-is, w.answering-is, w.total-is)
          (after_nothing c.args.answering.now.house _ _ c.reads.answering c.reads.feed c.fill.new.feed
          c.reads.total c.reads.counter _ _ _ c.reads.invariant w.in-Nothing.ensures.fills c.fill.ensures.made)
      | in-Bytes+in-Ok-answer_read w ↦
          rw (w.writer-is, w.feed-is, w.answering-is, w.total-is)
          (after_bytes c.args.answering.now.house _ _ c.reads.answering w.answer_read.new.answering c.reads.feed
          c.fill.new.feed w.answer_read.new.feed c.reads.total c.reads.counter w.in-Bytes.count _ _ _ _ _ _
          c.reads.invariant w.in-Bytes.ensures.fills c.fill.ensures.made w.in-Ok-answer_read.ensures.right
          w.in-Ok-answer_read.ensures.appended w.in-Ok-answer_read.ensures.grows)
    ]

pub returns : goal.returns
returns g c =
    limit_right c.args.answering.now.house _ _ c.reads.answering c.reads.feed c.reads.total c.reads.counter
    (omega (arith, c.reads-test.false, c.reads.auto.counter-end)) c.reads.invariant
