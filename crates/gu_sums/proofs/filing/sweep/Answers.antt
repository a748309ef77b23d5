use Rattle.gu_sums.proofs.filing.sweep.Goals as goal
use Rattle.gu_sums.specs.declared.filing.Filed.{Filed}
use Rattle.std.{proofs.{Common.rules, lemmas.Fn.filter_same}, specs.Prelude.is_some}

pub returns : goal.returns
returns g c = filter_same _ (λ (f : Filed _). is_some f.kept) _ (λ x b f' k. search rules) _ _ c.retain.ensures.filtered
