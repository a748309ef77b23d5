use Rattle.std.proofs.Common.{◌∙◌, ◌++◌, ap}
use Rattle.std.specs.Prelude.{codes}
use Rattle.gu_status.specs.Samples.{single}
use Rattle.gu_status.specs.Metrics.{one_if, state_text}
use Rattle.gu_status.proofs.Appending.{on_ok, three}
use Rattle.gu_status.proofs.figures.push_state.Goals as goal

pub returns : goal.returns
unfolding state_text
returns c = on_ok c.push_single.result
    (λ last. three _ _ _ _ _ _ _ c.in_ok-push_flag.ensures (c.in_ok-push_flag-2.ensures
    ∙ ap (λ b. c.push_flag.new.text.items ++ single (codes "allocd_healthy") (codes "gauge")
    (codes "1 where each part of the server moves, else 0.") (one_if b)) c.is_healthy.ensures) last)
    c.push_single.ensures
