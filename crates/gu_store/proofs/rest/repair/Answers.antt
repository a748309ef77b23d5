use Rattle.gu_store.proofs.rest.repair.Goals as goal
use Rattle.gu_store.proofs.{Steps.{from_one, repairing, still, zero_kept}, Zeroing.zeros_behind}
use Rattle.std.proofs.Common.{ap, arith, length, length-append, ◌-◌, ◌∙◌, ◌≤◌}

pub returns-in_err-write_zeros-clause-crash : goal.returns-in_err-write_zeros-clause-crash
returns-in_err-write_zeros-clause-crash g c before c' end has only left =
    still before (omega (arith, end)) has (from_one only c.write_zeros.ensures.zeroing.crash c' left)

pub returns-in_err-sync-clause-crash : goal.returns-in_err-sync-clause-crash
returns-in_err-sync-clause-crash g c before c' end has only left =
    still before (omega (arith, end)) has
    (from_one only c.write_zeros.ensures.zeroing.crash c' (c.sync.ensures.crash c' left))

pub returns-clause-crash : goal.returns-clause-crash
returns-clause-crash g c before c' end has only left =
    still before (omega (arith, end)) has
    (from_one only c.write_zeros.ensures.zeroing.crash c' (c.sync.ensures.crash c' left))

-- ---- how long it is

pub returns-in_err-write_zeros-clause-few : goal.returns-in_err-write_zeros-clause-few
returns-in_err-write_zeros-clause-few g c c' size only left =
    let torn = from_one only c.write_zeros.ensures.zeroing.crash c' left in
    omega (arith, torn.no_longer, size, c.max-left.ensures, c.requires.within)

pub returns-in_err-sync-clause-few : goal.returns-in_err-sync-clause-few
returns-in_err-sync-clause-few g c c' size only left =
    let torn = from_one only c.write_zeros.ensures.zeroing.crash c' (c.sync.ensures.crash c' left) in
    omega (arith, torn.no_longer, size, c.max-left.ensures, c.requires.within)

pub returns-clause-few : goal.returns-clause-few
returns-clause-few g c c' size only left =
    let torn = from_one only c.write_zeros.ensures.zeroing.crash c' (c.sync.ensures.crash c' left) in
    omega (arith, torn.no_longer, size, c.max-left.ensures, c.requires.within)

-- ---- where the device finishes each byte

pub returns-in_err-write_zeros-clause-mixed : goal.returns-in_err-write_zeros-clause-mixed
returns-in_err-write_zeros-clause-mixed g c all before front c' end size some is only left =
    repairing before front end is (omega (arith, c.max-left.ensures, size))
    (from_one only (c.write_zeros.ensures.zeroing.mixed all) c' left) (omega (arith, some, size))

pub returns-in_err-sync-clause-mixed : goal.returns-in_err-sync-clause-mixed
returns-in_err-sync-clause-mixed g c all before front c' end size some is only left =
    repairing before front end is (omega (arith, c.max-left.ensures, size))
    (from_one only (c.write_zeros.ensures.zeroing.mixed all) c' (c.sync.ensures.crash c' left))
    (omega (arith, some, size))

pub returns-clause-mixed : goal.returns-clause-mixed
returns-clause-mixed g c all before front c' end size some is only left =
    repairing before front end is (omega (arith, c.max-left.ensures, size))
    (from_one only (c.write_zeros.ensures.zeroing.mixed all) c' (c.sync.ensures.crash c' left))
    (omega (arith, some, size))

pub returns-in_err-write_zeros-clause-zero : goal.returns-in_err-write_zeros-clause-zero
returns-in_err-write_zeros-clause-zero g c all before c' end size has_one has only left =
    zero_kept before has.0 end has.1 (omega (arith, c.max-left.ensures, size))
    (from_one only (c.write_zeros.ensures.zeroing.mixed all) c' left) has_one

pub returns-in_err-sync-clause-zero : goal.returns-in_err-sync-clause-zero
returns-in_err-sync-clause-zero g c all before c' end size has_one has only left =
    zero_kept before has.0 end has.1 (omega (arith, c.max-left.ensures, size))
    (from_one only (c.write_zeros.ensures.zeroing.mixed all) c' (c.sync.ensures.crash c' left)) has_one

pub returns-clause-zero : goal.returns-clause-zero
returns-clause-zero g c all before c' end size has_one has only left =
    zero_kept before has.0 end has.1 (omega (arith, c.max-left.ensures, size))
    (from_one only (c.write_zeros.ensures.zeroing.mixed all) c' (c.sync.ensures.crash c' left)) has_one

-- ---- at rest again

pub returns-clause-file : goal.returns-clause-file
returns-clause-file g c before end size has =
    let long : length has.0 ≤ c.max-left.result =
    omega (arith, c.max-left.ensures, end, size, ap length has.1, length-append before has.0) in
    c.sync.ensures.seen ∙ zeros_behind before has.0 _ _ c.args.end c.max-left.result has.1 end long
    c.write_zeros.ensures.zeroing.others c.in_ok-write_zeros.ensures.written
