use Rattle.std.proofs.Common.{length}
use Rattle.gu_batch.specs.Held.{LeadsTo}
use Rattle.gu_batch.proofs.held.answer_frames.Given as goal

abbrev pub invariant-frames : goal.invariant-frames
invariant-frames l = LeadsTo l.fn.answering l.fn.feed l.answering l.feed l.out.items

abbrev pub decreases-frames : goal.decreases-frames
decreases-frames l = length l.feed.held
