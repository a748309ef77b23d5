use Rattle.gu_fees.proofs.blocks.renew.Goals as goal
use Rattle.gu_base.specs.Terms.{raised_by_deed, used_by_deed}
use Rattle.gu_fees.proofs.Walks.{counted_parts, renewed, set_behind}
use Rattle.std.proofs.Common.{arith, drop, ◌*◌, ◌/◌}

pub block_of-requires-clause-raised : goal.block_of-requires-clause-raised
block_of-requires-clause-raised c =
    let parts = counted_parts raised_by_deed (c.args.place / 128 * 128) c.args.deeds.now in
    let these = counted_parts raised_by_deed 128 (drop (c.args.place / 128 * 128) c.args.deeds.now) in
    rw c.block_at.ensures (omega (arith, parts, these, c.requires.raised))

pub block_of-requires-clause-used : goal.block_of-requires-clause-used
block_of-requires-clause-used c =
    let parts = counted_parts used_by_deed (c.args.place / 128 * 128) c.args.deeds.now in
    let these = counted_parts used_by_deed 128 (drop (c.args.place / 128 * 128) c.args.deeds.now) in
    rw c.block_at.ensures (omega (arith, parts, these, c.requires.used))

pub returns-then-i-len : goal.returns-then-i-len
returns-then-i-len c = λ before f are set.
    rw (c.block_of.ensures, c.block_at.ensures, set)
    (renewed c.args.blocks.now.items before (c.args.place / 128) c.args.place f are
    (omega (arith, c.if-i-len.true)) (omega arith) (omega arith))

pub returns-else-i-len : goal.returns-else-i-len
returns-else-i-len c = λ before f are set.
    rw set (set_behind c.args.blocks.now.items before c.args.place f are (omega (arith, c.if-i-len.false)))
