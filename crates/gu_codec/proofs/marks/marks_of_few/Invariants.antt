use Rattle.std.proofs.Common.{◌≡◌, ◌≤◌, ◌<◌, ◌+◌, ◌-◌, ◌^◌, ℕ, length}
use Rattle.std.specs.Int.{bit_at}
use Rattle.gu_codec.specs.MarkBits.{soh_bit}
use Rattle.gu_codec.proofs.marks.marks_of_few.Given as goal

abbrev pub invariant-loop-i : goal.invariant-loop-i
invariant-loop-i l = record {
  within : l.i ≤ length l.bytes;
  small : l.marks < 2 ^ (length l.bytes - l.i);
  bits : (j : ℕ) → bit_at l.marks j ≡ soh_bit l.bytes (l.i + j);
}

abbrev pub decreases-loop-i : goal.decreases-loop-i
decreases-loop-i l = l.i
