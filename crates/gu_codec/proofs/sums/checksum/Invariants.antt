use Rattle.std.proofs.Common.{◌≡◌, ◌≤◌, ◌-◌, ◌%◌, length, take}
use Rattle.std.specs.Prelude.{sum}
use Rattle.gu_codec.proofs.sums.checksum.Given as goal

abbrev pub invariant-loop-i : goal.invariant-loop-i
invariant-loop-i l = record {
  within : l.i ≤ length l.bytes;
  len : length l.sums ≡ 16;
  sum : sum l.sums % 256 ≡ sum (take l.i l.bytes) % 256;
}

abbrev pub decreases-loop-i : goal.decreases-loop-i
decreases-loop-i l = length l.bytes - l.i
