use Rattle.gu_fees.proofs.blocks.block_of.Given as goal
use Rattle.gu_base.specs.Terms.{raised_under, used_under}
use Rattle.gu_fees.specs.Blocks.{block_of, block_with, deeds_in}
use Rattle.std.{proofs.Common.{drop, ◌+◌, ◌<◌, ◌^◌, ◌≡◌}, specs.List.fold}

abbrev pub invariant-loop-filed : goal.invariant-loop-filed
invariant-loop-filed l = record {
  same : fold (λ b d. block_with b d.deed) l.block (deeds_in (drop l.filed-index l.deeds))
      ≡ block_of (deeds_in l.deeds);
  left : l.block.left + raised_under (deeds_in (drop l.filed-index l.deeds)) < 2 ^ 64;
  need : l.block.need + used_under (deeds_in (drop l.filed-index l.deeds)) < 2 ^ 64;
}
