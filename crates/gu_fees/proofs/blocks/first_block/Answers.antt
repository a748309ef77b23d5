use Rattle.gu_fees.proofs.blocks.first_block.Goals as goal
use Rattle.gu_fees.proofs.Walks.{drop_min}
use Rattle.std.proofs.{Common.{ap, drop, take, ◌∙◌}, lemmas.List.take_min}

pub returns-clause-first : goal.returns-clause-first
returns-clause-first c =
    c.split_at.ensures.front ∙ (ap (λ n. take n c.args.deeds.now) c.min.ensures ∙ take_min 128 c.args.deeds.now)

pub returns-clause-behind : goal.returns-clause-behind
returns-clause-behind c =
    c.split_at.ensures.back ∙ (ap (λ n. drop n c.args.deeds.now) c.min.ensures ∙ drop_min 128 c.args.deeds.now)
