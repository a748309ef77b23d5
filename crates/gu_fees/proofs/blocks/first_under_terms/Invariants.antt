use Rattle.gu_fees.proofs.blocks.first_under_terms.Given as goal
use Rattle.gu_base.specs.Dealt.{first_under_terms}
use Rattle.{gu_fees.specs.Blocks.{AreBlocks, deeds_in}, std.proofs.Common.{drop, length, ◌*◌, ◌≡◌, ◌≤◌}}

abbrev pub invariant-loop-block : goal.invariant-loop-block
invariant-loop-block l = record {
  place : l.i ≡ l.block-index;
  there : l.i * 128 ≤ length l.deeds;
  blocks : AreBlocks (drop l.block-index l.blocks) (drop (l.i * 128) l.deeds);
  same : first_under_terms (deeds_in (drop (l.i * 128) l.deeds)) ≡ first_under_terms (deeds_in l.deeds);
}
