use Rattle.gu_fees.proofs.blocks.sweep.Goals as goal
use Rattle.gu_fees.proofs.Walks.{blocks_hold}
use Rattle.std.proofs.Common.{arith}

pub rebuild-requires-clause-room : goal.rebuild-requires-clause-room
rebuild-requires-clause-room c =
    let hold = blocks_hold c.args.blocks.now.items c.args.deeds.now.all c.requires.blocks in
    rw c.all.ensures.all (omega (arith, hold.1, c.sweep.ensures.fewer))

pub rebuild-requires-clause-raised : goal.rebuild-requires-clause-raised
rebuild-requires-clause-raised c = rw (c.all.ensures.kept, c.sweep.ensures.kept) c.requires.raised

pub rebuild-requires-clause-used : goal.rebuild-requires-clause-used
rebuild-requires-clause-used c = rw (c.all.ensures.kept, c.sweep.ensures.kept) c.requires.used
