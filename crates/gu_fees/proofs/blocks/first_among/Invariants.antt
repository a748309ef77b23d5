use Rattle.gu_fees.proofs.blocks.first_among.Given as goal
use Rattle.{gu_base.specs.Dealt.first_under_terms, gu_fees.specs.Blocks.deeds_in}
use Rattle.std.proofs.Common.{drop, ◌≡◌}

abbrev pub invariant-loop-filed : goal.invariant-loop-filed
invariant-loop-filed l =
    first_under_terms (deeds_in (drop l.filed-index l.deeds)) ≡ first_under_terms (deeds_in l.deeds)
