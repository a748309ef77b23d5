use Rattle.gu_fees.proofs.blocks.rebuild.Given as goal
use Rattle.gu_base.specs.Terms.{raised_under, used_under}
use Rattle.gu_fees.specs.{Blocks.{AreBlocks, deeds_in}, declared.blocks.Block.Block}
use Rattle.std.{proofs.Common.{length, List, ◌*◌, ◌++◌, ◌+◌, ◌<◌, ◌^◌}, specs.Prelude.{vec_capacity, vec_len}}

abbrev pub invariant-loop-rest : goal.invariant-loop-rest
invariant-loop-rest l = record {
  blocks : (bs : List Block) → AreBlocks bs l.rest → AreBlocks (l.blocks.items ++ bs) l.deeds;
  room : length l.rest + 128 * vec_len l.blocks < 128 * vec_capacity l.blocks + 128;
  raised : raised_under (deeds_in l.rest) < 2 ^ 64;
  used : used_under (deeds_in l.rest) < 2 ^ 64;
}

abbrev pub decreases-loop-rest : goal.decreases-loop-rest
decreases-loop-rest l = length l.rest
