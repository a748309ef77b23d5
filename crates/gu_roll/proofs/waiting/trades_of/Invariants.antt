use Rattle.std.proofs.Common.{◌≡◌, length, drop}
use Rattle.std.specs.Prelude.{None, replicate}
use Rattle.gu_roll.specs.Opened.{trades_from}
use Rattle.gu_roll.proofs.waiting.trades_of.Given as goal

abbrev pub invariant-loop-number : goal.invariant-loop-number
invariant-loop-number l = record {
  long : length l.trades.items ≡ length l.history;
  from : trades_from l.history l.trades.items (drop l.number-index l.numbers)
      ≡ trades_from l.history (replicate (length l.history) None) l.numbers;
}
