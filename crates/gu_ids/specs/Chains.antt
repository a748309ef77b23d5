-- Chains of entries, one for each bucket: from its newest entry to the one before it in the bucket,
-- and so on.
use Rattle.std.specs.Prelude.{◌≡◌, ◌≤◌, ◌<◌, ◌*◌, ◌==◌, ℕ, Bool, List, length, map, slice_index_or}
use Rattle.std.specs.Prelude.{vec_len, vec_capacity}
use Rattle.gu_base.specs.declared.entry.Entry.{Entry}
use Rattle.gu_ids.specs.declared.ids.Ids.{Ids}
use Rattle.gu_ids.specs.declared.ids.Link.{Link}
use Rattle.gu_ids.specs.declared.ids.Bucket.{Bucket}
use Rattle.gu_ids.specs.Hashing.{hash_of}
use Rattle.gu_ids.specs.Marks.{bucket_of, marks_of, AreMarked}
use Rattle.gu_ids.specs.Newest.{newest, is_at}

-- the hash of each entry
abbrev pub hashes_of : List Link → List ℕ
hashes_of links = map (λ l. l.hash) links

-- the entry before each in its bucket
abbrev pub befores_of : List Link → List ℕ
befores_of links = map (λ l. l.before) links

-- the newest entry of each bucket
abbrev pub newests_of : List Bucket → List ℕ
newests_of heads = map (λ h. h.newest) heads

-- the hash at this place falls into bucket b of n
abbrev pub is_in : List ℕ → ℕ → ℕ → ℕ → Bool
is_in hashes n b place = bucket_of (slice_index_or hashes place 0) n == b

-- each bucket leads to the newest of its entries among the first k, and each of these to the newest
-- one before it in its bucket
pub record AreChains (hashes befores heads : List ℕ) (k : ℕ) : Type 0 where
  pub head : (b : ℕ) → b < length heads
      → slice_index_or heads b 0 ≡ newest (is_in hashes (length heads) b) k
  pub before : (j : ℕ) → j < k
      → slice_index_or befores j 0
      ≡ newest (is_in hashes (length heads) (bucket_of (slice_index_or hashes j 0) (length heads)))
      j

-- the chains are those of this history
pub record AreIdsOf (ids : Ids) (h : List Entry) : Type 0 where
  pub hashes : hashes_of ids.links.items ≡ map (λ e. hash_of ids.key e.firm e.id) h
  pub chains : AreChains (hashes_of ids.links.items) (befores_of ids.links.items)
      (newests_of ids.buckets.items) (length ids.links.items)
  pub marked : AreMarked (hashes_of ids.links.items) (marks_of ids.buckets.items)
      (length ids.links.items)
  pub few : length ids.links.items ≤ 4 * length ids.buckets.items

-- the entries that are kept
abbrev pub count : Ids → ℕ
count ids = length ids.links.items

-- there is room for one entry more, and a bucket for it
pub record IsReady (ids : Ids) : Type 0 where
  pub room : vec_len ids.links < vec_capacity ids.links
  pub buckets : count ids < 4 * length ids.buckets.items

-- the places of the entries that share the bucket of this firm and id
abbrev pub chain : Ids → List ℕ → List ℕ → ℕ → Bool
chain ids firm id =
    is_in (hashes_of ids.links.items) (length (newests_of ids.buckets.items))
    (bucket_of (hash_of ids.key firm id) (length (newests_of ids.buckets.items)))

-- where a walk stands at a number: no entry above it has the firm and id, and it is of their chain
pub record Stands (ids : Ids) (h : List Entry) (firm id : List ℕ) (number : ℕ) : Type 0 where
  pub so_far : newest (is_at h firm id) number ≡ newest (is_at h firm id) (length h)
  pub within : number ≤ length h
  pub chained : newest (chain ids firm id) number ≡ number
