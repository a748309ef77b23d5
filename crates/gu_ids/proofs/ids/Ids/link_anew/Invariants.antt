use Rattle.std.proofs.Common.{◌≡◌, length}
use Rattle.gu_ids.specs.Chains.{hashes_of, befores_of, newests_of, AreChains, count}
use Rattle.gu_ids.specs.Marks.{marks_of, AreMarked}
use Rattle.gu_ids.proofs.ids.Ids.link_anew.Given as goal

-- the entries so far are linked
abbrev pub invariant-loop-place : goal.invariant-loop-place
invariant-loop-place l = record {
  hashes : hashes_of l.self.links.items ≡ hashes_of l.initial.self.links.items;
  buckets : length l.self.buckets.items ≡ l.buckets;
  count : count l.self ≡ count l.initial.self;
  key : l.self.key ≡ l.initial.self.key;
  chains : AreChains (hashes_of l.self.links.items) (befores_of l.self.links.items) (newests_of l.self.buckets.items)
      l.place;
  marked : AreMarked (hashes_of l.self.links.items) (marks_of l.self.buckets.items) l.place;
}
