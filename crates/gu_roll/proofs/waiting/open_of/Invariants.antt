use Rattle.std.proofs.Common.{◌≡◌, ◌≤◌, ◌||◌, ℕ, length, drop}
use Rattle.std.specs.List.{list_any}
use Rattle.gu_roll.specs.Opened.{flag, opens_at}
use Rattle.gu_roll.proofs.waiting.open_of.Given as goal

abbrev pub invariant-loop-number : goal.invariant-loop-number
invariant-loop-number l = record {
  long : length l.flags.items ≡ length l.history;
  flags : (k : ℕ) → 1 ≤ k → k ≤ length l.history
      → (flag l.flags.items k || list_any (opens_at l.history l.trades l.decided k) (drop l.number-index l.numbers))
      ≡ list_any (opens_at l.history l.trades l.decided k) l.numbers;
}
