use Rattle.gu_fees.proofs.pair.PairTerms.put.Goals as goal
use Rattle.gu_fees.{proofs.{Dealings.{dealings_with, kept_more, room_used}, Walks.blocks_hold}, specs.Pairs.dealings_of}
use Rattle.std.proofs.Common.{arith, length-append, Some, [], ◌∙◌, ◌∷◌}

pub overflow_add-self-2 : goal.overflow_add-self-2
overflow_add-self-2 c =
    let ds = dealings_of c.self.inside.deeds.filed.kept in
    let room = rw (← c.self.view_is) at c.requires.fits in
    omega (arith, room_used _ _ _ c.self.invariant.kept.small.used room)

pub put-requires-clause-room : goal.put-requires-clause-room
put-requires-clause-room c =
    let room = rw (← c.self.view_is) at c.requires.room in
    omega (arith, room)

pub put-requires-clause-blocks : goal.put-requires-clause-blocks
put-requires-clause-blocks c =
    let hold = blocks_hold c.self.inside.blocks.items c.self.inside.deeds.all c.self.invariant.blocks in
    rw (c.all.ensures.all, c.file.ensures.all) (omega (
      arith,
      hold.0,
      length-append c.self.inside.deeds.all
          (record { number = c.args.entry; kept = Some c.args.deed } ∷ []),
    ))

pub put-requires-clause-raised : goal.put-requires-clause-raised
put-requires-clause-raised c =
    let room = rw (← c.self.view_is) at c.requires.fits in
    let more = kept_more _ c.self.invariant.kept c.args.entry c.args.deed room in
    rw (c.all.ensures.kept, c.file.ensures.filed.kept, dealings_with) (omega (arith, more.small.raised))

pub put-requires-clause-used : goal.put-requires-clause-used
put-requires-clause-used c =
    let room = rw (← c.self.view_is) at c.requires.fits in
    let more = kept_more _ c.self.invariant.kept c.args.entry c.args.deed room in
    rw (c.all.ensures.kept, c.file.ensures.filed.kept, dealings_with) more.small.used

pub invariant_of-self : goal.invariant_of-self
invariant_of-self c = record {
  kept = rw (c.file.ensures.filed.kept, dealings_with, c.made_with-self-inside.ensures)
      (rw (c.raised_by.ensures, c.used_by.ensures)
      (kept_more _ c.self.invariant.kept _ _ (rw (← c.self.view_is) at c.requires.fits)));
  blocks = rw c.all.ensures.all at (c.put.ensures c.self.inside.deeds.all
      (record { number = c.args.entry; kept = Some c.args.deed }) c.self.invariant.blocks
      (c.all.ensures.all ∙ c.file.ensures.all));
}

pub returns-clause-dealings : goal.returns-clause-dealings
returns-clause-dealings c =
    rw (← c.self.view_is) (cc (dealings_with c.self.inside.deeds.filed.kept c.args.entry c.args.deed))
