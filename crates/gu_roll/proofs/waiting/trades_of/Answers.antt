use Rattle.std.proofs.Common.{◌≡◌, length, sym, arith, rules, vec_len}
use Rattle.gu_base.specs.History.{numbered_as}
use Rattle.gu_base.proofs.Numbered.{found_at}
use Rattle.gu_roll.proofs.waiting.trades_of.Goals as goal

pub index_mut-requires : goal.index_mut-requires
index_mut-requires c =
    let n = c.number-item.result in
    let at = found_at n 1 c.args.history.now (numbered_as n c.in-Some.entry.now) (sym c.in-Some.ensures) in
    let long : vec_len c.loop-number.trades ≡ length c.loop-number.trades.items = search rules in
    omega (arith, at.within, at.from, long, c.loop-number.invariant.long, c.get.ensures.value)
