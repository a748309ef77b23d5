use Rattle.gu_fees.proofs.blocks.walk_without.Goals as goal
use Rattle.gu_base.specs.{Dealt.first_over, declared.house.Dealing.Dealing, Terms.raised_under}
use Rattle.gu_fees.proofs.Walks.{block_behind, blocks_before, blocks_behind, blocks_hold, deeds_round, drop_min}
use Rattle.gu_fees.proofs.Walks.{raised_round}
use Rattle.gu_fees.{proofs.blocks.walk_without.Goals.After-split_at-5, specs.Blocks.{deeds_in, goes_on}}
use Rattle.std.proofs.Common.{ap, arith, drop, Err, length, length-take, List, Ok, Result, Some, sym, take, ℕ}
use Rattle.std.proofs.Common.{◌*◌, ◌++◌, ◌+◌, ◌-◌, ◌/◌, ◌∙◌, ◌≡◌, ◌≤◌}
use Rattle.std.proofs.Math.Nat.{min_comm}
use Rattle.std.specs.Prelude.{IsErr, IsErrAnd}

-- what a `?` hands on is the error itself
gives : {n : ℕ} (r : Result ℕ ℕ) (later : List Dealing) → IsErr r × IsErrAnd r (λ m. m ≡ n) → goes_on r later ≡ Some n
gives (Ok room) later gave = absurd (gave.1)
gives (Err m) later gave = ap Some gave.1

-- what the deeds are but for the one, as the walks take them
round : (c : After-split_at-5) (later : List Dealing)
    → deeds_in (take c.args.place c.args.deeds.now ++ drop (c.args.place + 1) c.args.deeds.now) ++ later
    ≡ deeds_in c.split_at-3.result.0.now ++ (deeds_in c.split_at-4.result.0.now
    ++ (deeds_in c.split_at-5.result.1.now ++ (deeds_in c.first_block.result.1.now ++ later)))
round c later =
    let s = c.args.place / 128 * 128 in
    deeds_round c.args.deeds.now c.args.place s (c.args.place - s)
    c.split_at-3.ensures.front c.split_at-3.ensures.back c.first_block.ensures.first c.first_block.ensures.behind
    c.split_at-4.ensures.front c.split_at-4.ensures.back c.split_at-5.ensures.back
    (omega arith) (omega arith) c.requires.place later

-- they raise no more than all
raised : (c : After-split_at-5)
    → raised_under (deeds_in c.split_at-3.result.0.now) + raised_under (deeds_in c.split_at-4.result.0.now)
    + raised_under (deeds_in c.split_at-5.result.1.now) + raised_under (deeds_in c.first_block.result.1.now)
    ≤ raised_under (deeds_in c.args.deeds.now)
raised c =
    let s = c.args.place / 128 * 128 in
    raised_round c.args.deeds.now s (c.args.place - s)
    c.split_at-3.ensures.front c.split_at-3.ensures.back c.first_block.ensures.first c.first_block.ensures.behind
    c.split_at-4.ensures.front c.split_at-4.ensures.back c.split_at-5.ensures.back

pub split_at-requires : goal.split_at-requires
split_at-requires c =
    let hold = blocks_hold c.args.blocks.now c.args.deeds.now c.requires.blocks in
    omega (arith, hold.1, c.requires.place)

pub split_at-requires-4 : goal.split_at-requires-4
split_at-requires-4 c =
    let rest = c.split_at-3.result.1.now in
    omega (
      arith,
      c.requires.place,
      c.split_at-3.ensures.back_len,
      ap length c.first_block.ensures.first,
      length-take 128 rest,
    )

pub split_at-requires-5 : goal.split_at-requires-5
split_at-requires-5 c =
    let rest = c.split_at-3.result.1.now in
    omega (
      arith,
      c.requires.place,
      c.split_at-3.ensures.back_len,
      c.split_at-4.ensures.back_len,
      ap length c.first_block.ensures.first,
      length-take 128 rest,
    )

pub walk_blocks-requires-clause-blocks : goal.walk_blocks-requires-clause-blocks
walk_blocks-requires-clause-blocks c =
    let hold = blocks_hold c.args.blocks.now c.args.deeds.now c.requires.blocks in
    rw (c.split_at.ensures.front, c.split_at-3.ensures.front)
    (blocks_before c.args.blocks.now c.args.deeds.now (c.args.place / 128) c.requires.blocks
    (omega (arith, hold.1, c.requires.place)))

pub walk_blocks-requires-2-clause-blocks : goal.walk_blocks-requires-2-clause-blocks
walk_blocks-requires-2-clause-blocks c =
    let rest = c.split_at.result.1.now in
    let behind : c.split_at-2.result.1.now ≡ drop 1 rest = c.split_at-2.ensures.back
    ∙ (ap (λ n. drop n rest) (c.min.ensures ∙ min_comm (length rest) 1) ∙ drop_min 1 rest) in
    rw (behind, c.split_at.ensures.back, c.first_block.ensures.behind, c.split_at-3.ensures.back)
    (block_behind _ _ (blocks_behind c.args.blocks.now c.args.deeds.now (c.args.place / 128) c.requires.blocks))

pub walk_blocks-requires-clause-room : goal.walk_blocks-requires-clause-room
walk_blocks-requires-clause-room c =
    let sums = raised (goal.at.walk_blocks-requires-clause-room c).After-split_at-5 in
    omega (arith, sums, c.requires.room)

pub walk-requires : goal.walk-requires
walk-requires c =
    let sums = raised (goal.at.walk-requires c).After-split_at-5 in
    omega (arith, sums, c.requires.room, c.in_ok-room.ensures.fits)

pub walk-requires-2 : goal.walk-requires-2
walk-requires-2 c =
    let sums = raised (goal.at.walk-requires-2 c).After-split_at-5 in
    omega (arith, sums, c.requires.room, c.in_ok-room.ensures.fits, c.in_ok-room-2.ensures.fits)

pub walk_blocks-requires-2-clause-room : goal.walk_blocks-requires-2-clause-room
walk_blocks-requires-2-clause-room c =
    let sums = raised (goal.at.walk_blocks-requires-2-clause-room c).After-split_at-5 in
    let fits = c.in_ok-room.ensures.fits in
    omega (arith, sums, c.requires.room, fits, c.in_ok-room-2.ensures.fits, c.in_ok-room-3.ensures.fits)

pub returns : goal.returns
returns c = λ later.
    ap (first_over c.args.room 0) (round (goal.at.returns c).After-split_at-5 later)
    ∙ (c.in_ok-room.ensures.goes _ ∙ (c.in_ok-room-2.ensures.goes _
    ∙ (c.in_ok-room-3.ensures.goes _ ∙ c.walk_blocks-2.ensures.goes later)))

pub returns-in_err-room : goal.returns-in_err-room
returns-in_err-room c = λ later.
    ap (first_over c.args.room 0) (round (goal.at.returns-in_err-room c).After-split_at-5 later)
    ∙ (c.in_err-room.ensures.goes _ ∙ sym (gives c.from_residual.result later c.from_residual.ensures))

pub returns-in_err-room-2 : goal.returns-in_err-room-2
returns-in_err-room-2 c = λ later.
    let error = c.from_residual-in_err-room-2 in
    ap (first_over c.args.room 0) (round (goal.at.returns-in_err-room-2 c).After-split_at-5 later)
    ∙ (c.in_ok-room.ensures.goes _ ∙ (c.in_err-room-2.ensures.goes _
    ∙ sym (gives error.result later error.ensures)))

pub returns-in_err-room-3 : goal.returns-in_err-room-3
returns-in_err-room-3 c = λ later.
    let error = c.from_residual-in_err-room-3 in
    ap (first_over c.args.room 0) (round (goal.at.returns-in_err-room-3 c).After-split_at-5 later)
    ∙ (c.in_ok-room.ensures.goes _ ∙ (c.in_ok-room-2.ensures.goes _
    ∙ (c.in_err-room-3.ensures.goes _ ∙ sym (gives error.result later error.ensures))))
