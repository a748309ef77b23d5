use Rattle.gu_fees.proofs.blocks.walk_blocks.Goals as goal
use Rattle.gu_base.specs.Terms.{raised_by_deed}
use Rattle.gu_fees.proofs.blocks.walk_blocks.Goals.{else-block-room+in-Ok, then-block-room}
use Rattle.gu_fees.proofs.Walks.{block_small, block_there, blocks_at, counted_parts, next_block, step_block, step_walk}
use Rattle.gu_fees.specs.Blocks.{deeds_in, no_block}
use Rattle.std.proofs.Common.{arith, drop, Err, get_or, Ok, Result, sym, take, ℕ, ◌*◌, ◌∙◌, ◌≤◌}
use Rattle.std.specs.Prelude.{IfOk}

less : (r : Result ℕ ℕ) (m n : ℕ) → m ≤ n → IfOk r (λ room. room ≤ m) → IfOk r (λ room. room ≤ n)
less (Ok room) m n most low = omega arith
less (Err e) m n most low = tt

pub overflow_add-room : goal.overflow_add-room
overflow_add-room c =
    let rest = drop (c.loop-block.i * 128) c.args.deeds.now in
    let at = blocks_at _ c.loop-block.block-index no_block rest c.loop-block-test.true c.loop-block.invariant.blocks in
    let small = block_small (deeds_in (take 128 rest)) in
    let parts = counted_parts raised_by_deed 128 rest in
    rw at.1 (omega (arith, small.1, parts, c.loop-block.invariant.fits, c.requires.room))

pub block_at-requires : goal.block_at-requires
block_at-requires c =
    let rest = drop (c.loop-block.i * 128) c.args.deeds.now in
    let at = blocks_at c.args.blocks.now c.loop-block.block-index no_block rest c.loop-block-test.true
    c.loop-block.invariant.blocks in
    block_there c.loop-block.i c.args.deeds.now at.0

pub walk-requires : goal.walk-requires
walk-requires c =
    let parts = counted_parts raised_by_deed 128 (drop (c.loop-block.i * 128) c.args.deeds.now) in
    rw c.block_at.ensures (omega (arith, parts, c.loop-block.invariant.fits, c.requires.room))

pub returns-in-Err-clause-goes : goal.returns-in-Err-clause-goes
returns-in-Err-clause-goes c = λ later.
    sym (c.loop-block.invariant.goes later)
    ∙ step_walk (drop (c.loop-block.i * 128) c.args.deeds.now) c.loop-block.room (Err c.in-Err.number)
    (λ l. rw (← c.block_at.ensures) (c.in-Err.ensures.goes l)) later

pub loop-block-preserved : goal.loop-block-preserved
loop-block-preserved c =
    let rest = drop (c.loop-block.i * 128) c.args.deeds.now in
    let at = blocks_at c.args.blocks.now c.loop-block.block-index no_block rest c.loop-block-test.true
    c.loop-block.invariant.blocks in
    let small = block_small (deeds_in (take 128 rest)) in
    let parts = counted_parts raised_by_deed 128 rest in
    let next = next_block c.loop-block.i c.args.deeds.now in
    let there = block_there c.loop-block.i c.args.deeds.now at.0 in
    elim c.if-block-room.branch [
      | then-block-room w ↦
          let b = get_or c.args.blocks.now c.loop-block.block-index no_block in
          let step = step_block b rest c.loop-block.room at.1 w.if-block-room.true in
          rw (w.room-is, ← next) (record {
            place = omega (arith, c.loop-block.invariant.place);
            there = omega (arith, there);
            blocks = at.2;
            goes = λ later. sym (step later) ∙ c.loop-block.invariant.goes later;
            fits = rw at.1 (omega (
              arith,
              small.1,
              parts,
              c.loop-block.invariant.fits,
              rw at.1 at w.if-block-room.true,
            ));
          })
      | else-block-room+in-Ok w ↦
          let step = step_walk rest c.loop-block.room (Ok w.in-Ok.left)
          (λ l. rw (← w.block_at.ensures) (w.in-Ok.ensures.goes l)) in
          let fits = rw w.block_at.ensures at w.in-Ok.ensures.fits in
          rw (w.room-is, ← next) (record {
            place = omega (arith, c.loop-block.invariant.place);
            there = omega (arith, there);
            blocks = at.2;
            goes = λ later. sym (step later) ∙ c.loop-block.invariant.goes later;
            fits = omega (arith, fits, parts, c.loop-block.invariant.fits);
          })
    ]

pub behind_blocks-requires : goal.behind_blocks-requires
behind_blocks-requires c = c.loop-block.invariant.there

pub walk-requires-2 : goal.walk-requires-2
walk-requires-2 c = rw c.behind_blocks.ensures (omega (arith, c.loop-block.invariant.fits, c.requires.room))

pub returns-clause-goes : goal.returns-clause-goes
returns-clause-goes c = λ later.
    sym (c.loop-block.invariant.goes later) ∙ rw c.behind_blocks.ensures at (c.walk-2.ensures.goes later)

pub returns-clause-fits : goal.returns-clause-fits
returns-clause-fits c =
    less c.walk-2.result _ _ c.loop-block.invariant.fits (rw c.behind_blocks.ensures at c.walk-2.ensures.fits)
