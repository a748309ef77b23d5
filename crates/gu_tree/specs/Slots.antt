-- What an entry named, and how it is packed.
use Rattle.std.specs.Prelude.{◌≡◌, ℕ, ◌==◌, ◌≤◌, cond, refl}
use Rattle.std.specs.Coded.{Coded, code_by, coded×, coded_ℕ}
use Rattle.gu_base.specs.Limits.{most_parts}
pub use Rattle.gu_tree.specs.declared.slot.Slot.{Slot}
use Rattle.gu_tree.specs.declared.slot.Slot.TheVariants.{Empty, Root, Node}
use Rattle.gu_tree.specs.declared.slot.Packed.{Packed}
use Rattle.gu_tree.specs.declared.slot.Packed.TheVariants.{Tree, Part}

abbrev pub unpacked : Packed → Slot
unpacked (Tree i) = Root i
unpacked (Part p e) = Node (record { entry = e; part = p })

abbrev pub pack : Slot → Packed
pack (Node n) = Part n.part n.entry
pack (Root i) = Tree i
pack Empty = Tree 0

pub pack_again : (p : Packed) → pack (unpacked p) ≡ p
pack_again (Tree i) = refl
pack_again (Part p e) = refl

abbrev pub HasPart : Packed → Type 0
HasPart (Tree i) = Unit {0}
HasPart (Part p e) = p ≤ most_parts

-- a slot is stored as three numbers
abbrev pub slot_numbers : Slot → (ℕ × ℕ) × ℕ
slot_numbers Empty = ((0, 0), 0)
slot_numbers (Root i) = ((1, i), 0)
slot_numbers (Node n) = ((2, n.entry), n.part)

abbrev pub slot_from : (ℕ × ℕ) × ℕ → Slot
slot_from p = cond (p.0.0 == 0) Empty (cond (p.0.0 == 1) (Root p.0.1)
    (Node (record { entry = p.0.1; part = p.1 })))

pub slot_from_slot_numbers : (s : Slot) → slot_from (slot_numbers s) ≡ s
slot_from_slot_numbers Empty = refl
slot_from_slot_numbers (Root i) = refl
slot_from_slot_numbers (Node n) = refl

abbrev pub slot_code : Coded Slot
slot_code = code_by ((ℕ × ℕ) × ℕ) (coded× (coded× coded_ℕ coded_ℕ) coded_ℕ) slot_numbers slot_from
    slot_from_slot_numbers
