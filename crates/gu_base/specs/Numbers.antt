-- Numbers in their ranges, and names of nodes.
use Rattle.std.specs.Prelude.{ℕ, Bool, ◌&&◌, nat_le}
use Rattle.gu_base.specs.Limits.{most_entries, most_lots, highest_rate, highest_limit, most_parts}

-- what may be the number of an entry
abbrev pub is_number : ℕ → Bool
is_number n = nat_le 1 n && nat_le n most_entries

-- the lots that a trade or a part may have
abbrev pub is_lots : ℕ → Bool
is_lots n = nat_le 1 n && nat_le n most_lots

-- the hundredths that a lot may cost
abbrev pub is_rate : ℕ → Bool
is_rate n = nat_le n highest_rate

-- the rate and the limit that terms may have
abbrev pub are_terms : ℕ → ℕ → Bool
are_terms rate limit = is_rate rate && nat_le limit highest_limit

-- a node's name: part 0 of a trade is its root, part i of a split its i-th part
pub record EntryPart : Type 0 where
  pub entry : ℕ
  pub part : ℕ

-- what may be the name of a node
abbrev pub is_node_name : ℕ → ℕ → Bool
is_node_name entry part = nat_le part most_parts && is_number entry
