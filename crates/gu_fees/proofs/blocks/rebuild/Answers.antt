use Rattle.gu_fees.proofs.blocks.rebuild.Goals as goal
use Rattle.gu_base.specs.Terms.{raised_by_deed, used_by_deed}
use Rattle.gu_fees.proofs.Walks.{counted_parts}
use Rattle.std.proofs.Common.{append_assoc, arith, length-drop, [], ◌∷◌}
use Rattle.std.proofs.lemmas.List.{append-nil}

pub block_of-requires-clause-raised : goal.block_of-requires-clause-raised
block_of-requires-clause-raised c =
    let these = counted_parts raised_by_deed 128 c.loop-rest.rest.now in
    rw c.first_block.ensures.first (omega (arith, these, c.loop-rest.invariant.raised))

pub block_of-requires-clause-used : goal.block_of-requires-clause-used
block_of-requires-clause-used c =
    let these = counted_parts used_by_deed 128 c.loop-rest.rest.now in
    rw c.first_block.ensures.first (omega (arith, these, c.loop-rest.invariant.used))

pub loop-rest-preserved : goal.loop-rest-preserved
loop-rest-preserved c =
    let raised = counted_parts raised_by_deed 128 c.loop-rest.rest.now in
    let used = counted_parts used_by_deed 128 c.loop-rest.rest.now in
    let len = length-drop 128 c.loop-rest.rest.now in
    rw c.first_block.ensures.behind (record {
      blocks = λ bs are. rw (c.push_reserved.ensures.items, append_assoc)
          (c.loop-rest.invariant.blocks (c.block_of.result ∷ bs)
          (c.loop-rest-test.true, rw (← c.first_block.ensures.first) c.block_of.ensures, are));
      room = omega (
        arith,
        len,
        c.loop-rest-test.true,
        c.push_reserved.ensures.len,
        c.push_reserved.ensures.capacity,
        c.loop-rest.invariant.room,
      );
      raised = omega (arith, raised, c.loop-rest.invariant.raised);
      used = omega (arith, used, c.loop-rest.invariant.used);
    })

pub returns : goal.returns
returns c = rw append-nil at (c.loop-rest.invariant.blocks [] (omega arith))

pub loop-rest-smaller : goal.loop-rest-smaller
loop-rest-smaller c = rw c.first_block.ensures.behind (omega (arith, length-drop 128 c.loop-rest.rest.now))
