use Rattle.gu_status.specs.Metrics.{logons_text}
use Rattle.gu_status.proofs.Appending.{on_ok, two}
use Rattle.gu_status.proofs.figures.push_logons.Goals as goal

pub returns : goal.returns
unfolding logons_text
returns c = on_ok c.push_causes.result
    (λ last. two _ _ _ _ _ c.in_ok-push_family.ensures last) c.push_causes.ensures
