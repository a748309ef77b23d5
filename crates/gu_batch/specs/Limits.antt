-- How much a batch reads. The code has constants of its own, and what is proved of it fails where
-- one of them differs from these.
use Rattle.std.specs.Prelude.{ℕ}

-- the reads of a batch
abbrev pub most_reads : ℕ
most_reads = 16777216

-- the bytes of a read: those that the feed has room for
abbrev pub longest_read : ℕ
longest_read = 65536
