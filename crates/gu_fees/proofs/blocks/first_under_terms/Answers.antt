use Rattle.gu_fees.proofs.blocks.first_under_terms.Goals as goal
use Rattle.gu_fees.proofs.Walks.{block_there, blocks_at, next_block, step_none, step_some}
use Rattle.gu_fees.specs.Blocks.{no_block}
use Rattle.std.proofs.Common.{arith, drop, get_or, ◌*◌, ◌∙◌}

pub block_at-requires : goal.block_at-requires
block_at-requires c =
    let at = blocks_at c.args.blocks.now c.loop-block.block-index no_block
    (drop (c.loop-block.i * 128) c.args.deeds.now) c.loop-block-test.true c.loop-block.invariant.blocks in
    block_there c.loop-block.i c.args.deeds.now at.0

pub returns-then-block : goal.returns-then-block
returns-then-block c =
    let rest = drop (c.loop-block.i * 128) c.args.deeds.now in
    let b = get_or c.args.blocks.now c.loop-block.block-index no_block in
    let at = blocks_at c.args.blocks.now c.loop-block.block-index no_block rest c.loop-block-test.true
    c.loop-block.invariant.blocks in
    rw c.block_at.ensures at c.first_among.ensures
    ∙ (step_some b rest at.1 c.if-block.true ∙ c.loop-block.invariant.same)

pub loop-block-preserved : goal.loop-block-preserved
loop-block-preserved c =
    let rest = drop (c.loop-block.i * 128) c.args.deeds.now in
    let b = get_or c.args.blocks.now c.loop-block.block-index no_block in
    let at = blocks_at c.args.blocks.now c.loop-block.block-index no_block rest c.loop-block-test.true
    c.loop-block.invariant.blocks in
    let next = next_block c.loop-block.i c.args.deeds.now in
    record {
      place = omega (arith, c.loop-block.invariant.place);
      there = omega (arith, block_there c.loop-block.i c.args.deeds.now at.0);
      blocks = rw next at at.2;
      same = rw next at (step_none b rest at.1 c.if-block.false) ∙ c.loop-block.invariant.same;
    }

pub behind_blocks-requires : goal.behind_blocks-requires
behind_blocks-requires c = c.loop-block.invariant.there

pub returns : goal.returns
returns c = rw c.behind_blocks.ensures at c.first_among-2.ensures ∙ c.loop-block.invariant.same
