use Rattle.std.proofs.Common.{◌≡◌, length, take, replicate}
use Rattle.gu_ids.proofs.ids.vacate.Given as goal

-- the buckets so far have no entries
abbrev pub invariant-loop-bucket : goal.invariant-loop-bucket
invariant-loop-bucket l = record {
  long : length l.buckets.items ≡ length l.initial.buckets.items;
  none : take l.bucket l.buckets.items ≡ replicate l.bucket (record { newest = 0; marks = 0 });
}
