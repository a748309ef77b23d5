use Rattle.gu_status.specs.Metrics.{losses_text}
use Rattle.gu_status.proofs.Appending.{on_ok, three}
use Rattle.gu_status.proofs.figures.push_losses.Goals as goal

pub returns : goal.returns
unfolding losses_text
returns c = on_ok c.push_single-3.result
    (λ last. three _ _ _ _ _ _ _ c.in_ok-push_single.ensures c.in_ok-push_single-2.ensures last) c.push_single-3.ensures
