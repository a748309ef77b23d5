-- Marks: which hashes a bucket may have entries of, two of 32 bits for each.
use Rattle.std.specs.Prelude.{◌≡◌, ◌<◌, ◌-◌, ◌/◌, ◌%◌, ◌^◌, ◌==◌, ◌&&◌, ℕ, Bool, true, List, length}
use Rattle.std.specs.Prelude.{map, slice_index_or, bit_and}
use Rattle.std.specs.Int.{bit_at}
use Rattle.gu_ids.specs.declared.ids.Bucket.{Bucket}

-- the bucket of a hash among n, a power of two
unfoldable pub bucket_of : ℕ → ℕ → ℕ
bucket_of hash n = bit_and hash (n - 1)

-- the bit that is the first mark of a hash
unfoldable pub mark_of : ℕ → ℕ
mark_of hash = hash / 2 ^ 27

-- the bit that is the second
unfoldable pub second_mark_of : ℕ → ℕ
second_mark_of hash = hash / 2 ^ 22 % 32

-- the bit is among the marks
abbrev pub is_marked : ℕ → ℕ → Bool
is_marked marks bit = bit_at marks bit == 1

-- the marks have both of the hash
abbrev pub bears : ℕ → ℕ → Bool
bears marks hash = is_marked marks (mark_of hash) && is_marked marks (second_mark_of hash)

-- the marks of each bucket
abbrev pub marks_of : List Bucket → List ℕ
marks_of heads = map (λ h. h.marks) heads

-- each of the first k entries has its marks in its bucket
abbrev pub AreMarked : List ℕ → List ℕ → ℕ → Type 0
AreMarked hashes marks k =
    (j : ℕ) → j < k
    → bears (slice_index_or marks (bucket_of (slice_index_or hashes j 0) (length marks)) 0)
    (slice_index_or hashes j 0)
    ≡ true
