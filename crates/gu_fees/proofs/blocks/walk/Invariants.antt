use Rattle.gu_fees.proofs.blocks.walk.Given as goal
use Rattle.gu_base.specs.{Dealt.first_over, declared.house.Dealing.Dealing, Terms.raised_under}
use Rattle.{gu_fees.specs.Blocks.deeds_in, std.proofs.Common.{drop, List, ◌++◌, ◌+◌, ◌≡◌, ◌≤◌}}

abbrev pub invariant-loop-filed : goal.invariant-loop-filed
invariant-loop-filed l = record {
  goes : (later : List Dealing) → first_over l.room 0 (deeds_in (drop l.filed-index l.deeds) ++ later)
      ≡ first_over l.initial.room 0 (deeds_in l.deeds ++ later);
  fits : l.room + raised_under (deeds_in (drop l.filed-index l.deeds))
      ≤ l.initial.room + raised_under (deeds_in l.deeds);
}
