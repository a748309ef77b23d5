use Rattle.gu_fees.proofs.pair.made.Given as goal
use Rattle.{gu_base.specs.Terms.made_in, gu_fees.specs.Pairs.dealings_of, gu_sums.specs.Filed.kept_in}
use Rattle.std.proofs.Common.{drop, ◌≡◌}

abbrev pub invariant-loop-filed : goal.invariant-loop-filed
invariant-loop-filed l =
    made_in (dealings_of (kept_in (drop l.filed-index l.deeds))) ≡ made_in (dealings_of (kept_in l.deeds))
