use Rattle.std.proofs.Common.{◌≡◌, ◌≤◌, ◌+◌, ◌-◌, length, true}
use Rattle.gu_codec.specs.Fields.{ShortBehind, short_front}
use Rattle.gu_codec.proofs.fields.are_short_by.Given as goal

abbrev pub invariant-loop-i : goal.invariant-loop-i
invariant-loop-i l = record {
  within : l.i + 5 ≤ length l.bytes;
  front : l.holds ≡ true → short_front l.bytes 0 ≡ true;
  behind : l.holds ≡ true → ShortBehind l.bytes l.i;
}

abbrev pub decreases-loop-i : goal.decreases-loop-i
decreases-loop-i l = length l.bytes - l.i
