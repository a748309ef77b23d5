-- What a contract sees of a history.
use Rattle.std.specs.Prelude.{ℕ, ◌≤◌, List}
use Rattle.gu_base.specs.declared.entry.Entry.{Entry}

-- the entries. So many more of them take no memory, and so many take none in the chains and in the
-- buckets of their ids
pub record HistoryView : Type 0 where
  pub items : List Entry
  pub room : ℕ
  pub link_room : ℕ
  pub bucket_room : ℕ

-- one more entry takes no memory
abbrev pub HasRoom : HistoryView → Type 0
HasRoom h = (1 ≤ h.room) × (1 ≤ h.link_room) × (1 ≤ h.bucket_room)
