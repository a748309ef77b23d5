use Rattle.gu_sums.proofs.filing.look.Goals as goal
use Rattle.gu_sums.{proofs.Filings.{at_found, at_nowhere}, specs.declared.filing.Filed.Filed}
use Rattle.std.proofs.Common.{ap, sym, ◌∙◌}

pub returns-in-Some : goal.returns-in-Some
returns-in-Some g c =
    ap (λ (z : Filed _). z.kept) (sym c.index-filed-i.is)
    ∙ at_found 0 _ _ _ _ c.requires c.in-Some.ensures.found
    c.index-filed-i.is

pub returns-in-None : goal.returns-in-None
returns-in-None g c = sym (at_nowhere _ _ c.in-None.ensures.absent)
