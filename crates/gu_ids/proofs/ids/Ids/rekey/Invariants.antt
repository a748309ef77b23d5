use Rattle.std.proofs.Common.{◌≡◌, length, take}
use Rattle.std.specs.Prelude.{vec_capacity}
use Rattle.gu_ids.specs.Chains.{AreIdsOf}
use Rattle.gu_ids.proofs.ids.Ids.rekey.Given as goal

-- the entries so far are filed
abbrev pub invariant-loop-place : goal.invariant-loop-place
invariant-loop-place l = record {
  key : l.self.key ≡ l.key;
  ids : AreIdsOf l.self (take l.place l.entries);
  room : vec_capacity l.self.links ≡ vec_capacity l.initial.self.links;
  buckets : length l.self.buckets.items ≡ length l.initial.self.buckets.items;
}
