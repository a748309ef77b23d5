-- What each entry named, filed by the number of the entry, and the way from a node up to its root.
use Rattle.std.specs.Prelude.{◌≡◌, ℕ, ◌+◌, ◌≤◌, Option, Some, None, unwrap_or, List, [], ◌∷◌, ◌++◌}
use Rattle.std.specs.Prelude.{length}
use Rattle.gu_base.specs.Limits.{deepest}
use Rattle.gu_base.specs.Numbers.{EntryPart}
use Rattle.gu_sums.specs.Filing.{Contents, kept_at}
use Rattle.gu_tree.specs.declared.slot.Slot.{Slot}
use Rattle.gu_tree.specs.declared.slot.Slot.TheVariants.{Empty, Root, Node}

-- what an entry named
abbrev pub slot_of : Contents Slot → ℕ → Slot
slot_of s e = unwrap_or (kept_at s e) Empty

-- the slot of a Trade
abbrev pub IsRoot : Slot → Type 0
IsRoot (Root i) = Unit {0}
IsRoot _ = ⊥

-- the node that an entry with this slot named, a Trade its root
abbrev pub name_in : ℕ → Slot → Option EntryPart
name_in entry (Root i) = Some (record { entry = entry; part = 0 })
name_in entry (Node n) = Some n
name_in entry Empty = None

-- from below: the steps from the node up to the root of the trade
abbrev pub Leads : Contents Slot → EntryPart → ℕ → List ℕ → Type 0
Leads s n trade [] = (n.part ≡ 0) × (n.entry ≡ trade)
Leads s n trade (i ∷ up) =
    (n.part ≡ i + 1) × ((m : EntryPart) × (slot_of s n.entry ≡ Node m) × Leads s m trade up)

-- a list from its end
abbrev pub turned : List ℕ → List ℕ
turned [] = []
turned (i ∷ is) = turned is ++ i ∷ []

-- a climb from the node ends at the root, and has so much room for its steps
abbrev pub Climbs : Contents Slot → EntryPart → ℕ → Type 0
Climbs s n steps = (trade : ℕ) × (up : List ℕ) × Leads s n trade up × (steps + length up ≤ deepest)

-- the climb's answer
pub record IsClimbed (s : Contents Slot) (n : EntryPart) (old new : List ℕ) (trade : ℕ) : Type 0
  where
    pub up : List ℕ
    pub leads : Leads s n trade up
    pub steps : new ≡ old ++ turned up
