use Rattle.std.proofs.Common.{◌≡◌, ℕ, ◌+◌, ◌≤◌, length, drop}
use Rattle.std.specs.List.{Contains}
use Rattle.gu_roll.specs.Numbering.{new_in, place_among}
use Rattle.gu_roll.proofs.renumbered.table_of.Given as goal

abbrev pub invariant-loop-place : goal.invariant-loop-place
invariant-loop-place l = record {
  within : l.place ≤ length l.numbers;
  long : length l.table.items ≡ l.most;
  told : (n : ℕ) → Contains (drop l.place l.numbers) n → 1 ≤ n → n ≤ l.most
      → new_in l.table.items n ≡ l.place + place_among (drop l.place l.numbers) n + 1;
}

abbrev pub decreases-loop-place : goal.decreases-loop-place
decreases-loop-place l = l.place
