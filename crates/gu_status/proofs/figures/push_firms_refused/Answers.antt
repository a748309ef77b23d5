use Rattle.std.proofs.Common.{◌∙◌, ◌++◌, ap}
use Rattle.gu_status.specs.Metrics.{firms_refused_text, refused_firms_text}
use Rattle.gu_status.proofs.Appending.{on_ok, two}
use Rattle.gu_status.proofs.figures.push_firms_refused.Goals as goal

pub returns : goal.returns
unfolding firms_refused_text
returns c = on_ok c.push_refused_firms.result
    (λ last. two _ _ _ _ _ c.in_ok-push_family.ensures
    (last ∙ ap (λ fs. c.push_family.new.text.items ++ refused_firms_text fs) c.deref.ensures.value))
    c.push_refused_firms.ensures
