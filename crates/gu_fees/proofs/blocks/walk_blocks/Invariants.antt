use Rattle.gu_fees.proofs.blocks.walk_blocks.Given as goal
use Rattle.gu_base.specs.{Dealt.first_over, declared.house.Dealing.Dealing, Terms.raised_under}
use Rattle.gu_fees.specs.Blocks.{AreBlocks, deeds_in}
use Rattle.std.proofs.Common.{drop, length, List, ◌*◌, ◌++◌, ◌+◌, ◌≡◌, ◌≤◌}

abbrev pub invariant-loop-block : goal.invariant-loop-block
invariant-loop-block l = record {
  place : l.i ≡ l.block-index;
  there : l.i * 128 ≤ length l.deeds;
  blocks : AreBlocks (drop l.block-index l.blocks) (drop (l.i * 128) l.deeds);
  goes : (later : List Dealing) → first_over l.room 0 (deeds_in (drop (l.i * 128) l.deeds) ++ later)
      ≡ first_over l.initial.room 0 (deeds_in l.deeds ++ later);
  fits : l.room + raised_under (deeds_in (drop (l.i * 128) l.deeds))
      ≤ l.initial.room + raised_under (deeds_in l.deeds);
}
