-- How large things may be. The code has constants of its own, and what is proved of it fails where
-- one of them differs from these.
use Rattle.std.specs.Prelude.{ℕ}

-- the entries of a history
abbrev pub most_entries : ℕ
most_entries = 1000000

-- the lots of a trade or of a part
abbrev pub most_lots : ℕ
most_lots = 10000000

-- what a lot may cost under an agreement, in hundredths
abbrev pub highest_rate : ℕ
highest_rate = 100000

-- the lots of live claims that an agreement may allow
abbrev pub highest_limit : ℕ
highest_limit = 10000000000000

-- the parts of a split
abbrev pub most_parts : ℕ
most_parts = 100

-- the depth of the deepest nodes
abbrev pub deepest : ℕ
deepest = 64

-- the bytes of the name of a firm, an account or an instrument
abbrev pub longest_name : ℕ
longest_name = 16

-- the bytes of the id of a command
abbrev pub longest_id : ℕ
longest_id = 32
