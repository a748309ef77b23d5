use Rattle.gu_batch.proofs.ReadSoFar.{ReadSoFar}
use Rattle.gu_batch.proofs.batch.answer_reads.Given as goal

abbrev pub invariant-reads : goal.invariant-reads
invariant-reads g l =
    ReadSoFar l.initial.answering.house
    (record {
      left = g.R.Source.remaining l.initial.reader;
      made = g.R.Source.made l.initial.reader;
      reads_failed =
          g.R.Source.failed l.initial.reader;
      contents = g.W.Sink.contents l.initial.writer;
      writes_failed = g.W.Sink.failed l.initial.writer;
    })
    (record {
      left = g.R.Source.remaining l.reader;
      made = g.R.Source.made l.reader;
      reads_failed =
          g.R.Source.failed l.reader;
      contents = g.W.Sink.contents l.writer;
      writes_failed = g.W.Sink.failed l.writer;
    })
    l.answering l.feed l.total l.counter
