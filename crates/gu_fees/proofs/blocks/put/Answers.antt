use Rattle.gu_fees.proofs.blocks.put.Goals as goal
use Rattle.gu_fees.proofs.Walks.{put_behind, put_last}
use Rattle.std.proofs.Common.{ap, arith, length}

pub returns-then-deeds-len-ge-SIZE : goal.returns-then-deeds-len-ge-SIZE
returns-then-deeds-len-ge-SIZE c = λ before f are is.
    rw (c.close.ensures, is)
    (put_last c.args.blocks.now.items before f are (omega (arith, ap length is, c.if-deeds-len-ge-SIZE.true)))

pub returns-else-deeds-len-ge-SIZE : goal.returns-else-deeds-len-ge-SIZE
returns-else-deeds-len-ge-SIZE c = λ before f are is.
    rw is
    (put_behind c.args.blocks.now.items before f are (omega (arith, ap length is, c.if-deeds-len-ge-SIZE.false)))
