-- How large a book is, and what memory it takes.
use Rattle.std.specs.Prelude.{ℕ, ◌+◌, ◌-◌, ◌*◌, ◌^◌, min, nat_le, Bool}
use Rattle.gu_limits.specs.declared.size.Size.{Size}

-- what a number of 64 bits has of a number
abbrev pub capped : ℕ → ℕ
capped n = min (2 ^ 64 - 1) n

-- about how many bytes of memory a book takes for an entry
abbrev pub entry_bytes : ℕ
entry_bytes = 254

-- and for a part of a Split
abbrev pub part_bytes : ℕ
part_bytes = 155

-- about how many bytes a book of this size takes
abbrev pub memory_of : Size → ℕ
memory_of size = capped (capped (size.entries * entry_bytes) + capped (size.parts * part_bytes))

-- the size with the entry of a call more, which has so many parts
abbrev pub with_call : Size → ℕ → Size
with_call size parts =
    record { entries = capped (size.entries + 1); parts = capped (size.parts + parts) }

-- how many bytes of memory a group of the journal may take, and at most for an entry and a part
abbrev pub group_bytes : ℕ
group_bytes = 8_000_000

abbrev pub group_entry_bytes : ℕ
group_entry_bytes = 1_000

abbrev pub group_part_bytes : ℕ
group_part_bytes = 150

-- at most how many bytes a group takes for so many
abbrev pub group_of : Size → ℕ
group_of size = capped
    (capped (size.entries * group_entry_bytes) + capped (size.parts * group_part_bytes))

-- so many fill it
abbrev pub fills_group : ℕ → Bool
fills_group bytes = nat_le group_bytes bytes
