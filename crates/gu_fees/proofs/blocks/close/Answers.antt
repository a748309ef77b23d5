use Rattle.gu_fees.proofs.blocks.close.Goals as goal
use Rattle.gu_base.specs.Terms.{raised_by_deed, used_by_deed}
use Rattle.gu_fees.proofs.Walks.{counted_parts}
use Rattle.std.proofs.Common.{arith, length, refl, ◌*◌, ◌≡◌}

pub block_of-requires-clause-raised : goal.block_of-requires-clause-raised
block_of-requires-clause-raised c =
    let parts = counted_parts raised_by_deed (c.len.result * 128) c.args.deeds.now in
    rw c.behind_blocks-rest.ensures (omega (arith, parts, c.requires.raised))

pub block_of-requires-clause-used : goal.block_of-requires-clause-used
block_of-requires-clause-used c =
    let parts = counted_parts used_by_deed (c.len.result * 128) c.args.deeds.now in
    rw c.behind_blocks-rest.ensures (omega (arith, parts, c.requires.used))

pub returns : goal.returns
returns c =
    let len : c.len.result ≡ length c.args.blocks.now.items = omega arith in
    rw (c.push_reserved.ensures.items, c.block_of.ensures, c.behind_blocks-rest.ensures, len) refl
