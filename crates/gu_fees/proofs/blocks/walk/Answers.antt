use Rattle.gu_fees.proofs.blocks.walk.Goals as goal
use Rattle.gu_fees.proofs.blocks.walk.Goals.{in-Some+else-room-used, in_default}
use Rattle.gu_fees.proofs.Walks.{none_there, walk_step}
use Rattle.std.proofs.Common.{arith, sym, ◌∙◌}

pub loop-filed-preserved : goal.loop-filed-preserved
loop-filed-preserved c = elim c.match-filed.branch [
  | in-Some+else-room-used w ↦
      let step = walk_step c.args.deeds.now c.loop-filed.filed-index c.filed-item.result w.in-Some.deed
      c.loop-filed.room c.match-filed.room c.loop-filed-test.true c.filed-item.is w.in-Some.is
      (omega arith) (omega arith) in
      record {
        goes = λ later. sym (step.goes later) ∙ c.loop-filed.invariant.goes later;
        fits = omega (arith, step.fits, c.loop-filed.invariant.fits);
      }
  | in_default w ↦
      let none = none_there c.args.deeds.now c.loop-filed.filed-index c.filed-item.result c.loop-filed-test.true
      c.filed-item.is w.in_default.is in
      record {
        goes = λ later. rw (w.room-is, ← none) (c.loop-filed.invariant.goes later);
        fits = rw (w.room-is, ← none) c.loop-filed.invariant.fits;
      }
]
