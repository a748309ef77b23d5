use Rattle.gu_fees.proofs.blocks.take.Goals as goal
use Rattle.gu_base.specs.Terms.{raised_by_deed, used_by_deed}
use Rattle.gu_fees.proofs.{Dealings.counted_less, Walks.blocks_hold}
use Rattle.gu_sums.proofs.Filings.{none_leaves}
use Rattle.std.proofs.Common.{ap, arith, length, length-set, None, sym, ◌∙◌}

pub returns-in_err-place-clause-taken : goal.returns-in_err-place-clause-taken
returns-in_err-place-clause-taken c = none_leaves _ _ c.in_err-place.ensures.absent

pub renew-requires-clause-blocks : goal.renew-requires-clause-blocks
renew-requires-clause-blocks c =
    let hold = blocks_hold c.args.blocks.now.items c.args.deeds.now.all c.requires.blocks in
    let marked = c.in_ok-deed.ensures.marked c.in_ok-place.place c.in_ok-place.ensures.found.there in
    let len = ap length marked
    ∙ length-set c.args.deeds.now.all c.in_ok-place.place (record { number = c.args.entry; kept = None }) in
    rw c.all.ensures.all (omega (arith, hold.0, len))

pub renew-requires-clause-raised : goal.renew-requires-clause-raised
renew-requires-clause-raised c =
    let there = sym c.in_ok-deed.ensures.value in
    let less = counted_less raised_by_deed c.args.entry c.in_ok-deed.deed c.args.deeds.now.filed.kept there in
    rw (c.all.ensures.kept, rw there at c.in_ok-deed.ensures.taken.removed) (omega (arith, less, c.requires.raised))

pub renew-requires-clause-used : goal.renew-requires-clause-used
renew-requires-clause-used c =
    let there = sym c.in_ok-deed.ensures.value in
    let less = counted_less used_by_deed c.args.entry c.in_ok-deed.deed c.args.deeds.now.filed.kept there in
    rw (c.all.ensures.kept, rw there at c.in_ok-deed.ensures.taken.removed) (omega (arith, less, c.requires.used))
