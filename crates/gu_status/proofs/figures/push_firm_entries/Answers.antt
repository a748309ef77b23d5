use Rattle.std.proofs.Common.{◌∙◌, ◌++◌, ap}
use Rattle.gu_status.specs.Metrics.{firm_entries_text, firms_text}
use Rattle.gu_status.proofs.Appending.{on_ok, two}
use Rattle.gu_status.proofs.figures.push_firm_entries.Goals as goal

pub returns : goal.returns
unfolding firm_entries_text
returns c = on_ok c.push_firms.result
    (λ last. two _ _ _ _ _ c.in_ok-push_family.ensures
    (last ∙ ap (λ fs. c.push_family.new.text.items ++ firms_text fs) c.deref.ensures.value)) c.push_firms.ensures
