use Rattle.std.proofs.Common.{◌∙◌, ◌++◌, ap}
use Rattle.gu_status.specs.Metrics.{fullness_text}
use Rattle.gu_status.specs.Samples.{millionths}
use Rattle.gu_status.proofs.Appending.{on_ok, three}
use Rattle.gu_status.proofs.figures.push_fullness.Goals as goal

pub returns : goal.returns
unfolding fullness_text
returns c = on_ok c.push_millionths.result
    (λ last. three _ _ _ _ _ _ _ c.in_ok-push_family.ensures c.in_ok-push.ensures
    (last ∙ ap (λ n. c.push.new.text.items ++ millionths n) c.fullness.ensures)) c.push_millionths.ensures
