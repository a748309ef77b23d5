use Rattle.gu_base.proofs.cells.Cells.of_text.Goals as goal
use Rattle.gu_base.proofs.Copied.{none_copied, one_more_copied, all_copied, copied_text, not_empty}

pub loop-i-init : goal.loop-i-init
loop-i-init g c = none_copied _ _ _

pub loop-i-preserved : goal.loop-i-preserved
loop-i-preserved g c =
    one_more_copied _ _ _ _ _ c.loop-i.invariant c.loop-i-test.true c.if-text.false c.if-b-lowest.false
    c.if-b-gt-LAST_PRINTED.false

pub invariant_of-result : goal.invariant_of-result
invariant_of-result g c =
    all_copied _ _ _ _ _ c.loop-i.invariant c.loop-i-test.false c.loop-i.auto.i-end c.if-text.false

pub returns : goal.returns
returns g c =
    copied_text _ _ _ _ _ c.loop-i.invariant c.loop-i-test.false c.loop-i.auto.i-end
    (not_empty _ _ c.is_empty.ensures c.if-is_empty.false) c.if-text.false
