use Rattle.gu_status.specs.Metrics.{server_text}
use Rattle.gu_status.proofs.Appending.{on_ok, three}
use Rattle.gu_status.proofs.figures.push_server.Goals as goal

pub returns : goal.returns
unfolding server_text
returns c = on_ok c.push_delays.result
    (λ last. three _ _ _ _ _ _ _ c.in_ok-push_build.ensures c.in_ok-push_start.ensures last) c.push_delays.ensures
