use Rattle.std.proofs.Common.{take}
use Rattle.gu_batch.proofs.ReadSoFar.{held_right, write_fails}
use Rattle.gu_batch.proofs.batch.answer_read.Goals as goal

pub returns-in-Ok : goal.returns-in-Ok
returns-in-Ok g c =
    let h = c.answer_frames-answered in
    record {
      out = c.deref.result.now;
      appended = c.in-Ok.ensures.ok;
      right = rw (c.deref.ensures.value)
          (held_right c.args.answering.now h.new.answering c.args.feed.now h.new.feed h.new.out.items h.result _ _
          h.ensures);
      grows = c.write_all.ensures.grows;
    }

pub returns-in-Err : goal.returns-in-Err
returns-in-Err g c =
    let h = c.answer_frames-answered in
    let written = c.in-Err.ensures.err in
    record {
      out = take written.0 c.deref.result.now;
      appended = written.1;
      right = rw (c.deref.ensures.value)
          (write_fails c.args.answering.now h.new.answering c.args.feed.now h.new.feed h.new.out.items written.0
          h.result _ _ h.ensures c.in-Err.ensures.failed);
      grows = c.write_all.ensures.grows;
    }
