-- The parts of a Split lie at the places that their names tell.
use Rattle.std.proofs.Common.{◌≡◌, ℕ, Bool, false, zero, suc, ◌+◌, ◌-◌, ◌<◌, ◌≤◌, List, [], ◌∷◌, refl, sym, ◌∙◌, ap}
use Rattle.std.proofs.Common.{arith, eqb, length, get_or}
use Rattle.std.specs.Prelude.{Some, None, find, slice_get, option_map}
use Rattle.std.proofs.lemmas.Bool.{false_from_ne_true}
use Rattle.std.proofs.lemmas.Bool.Decides.{Decides-eqb}
use Rattle.std.proofs.lemmas.Option.{slice_get_read, slice_get_past}
use Rattle.std.proofs.Math.Bool.{and-false}
use Rattle.gu_base.specs.Numbers.{EntryPart}
use Rattle.gu_base.specs.Nodes.{nodes_of_parts, same_name, kind_of_part}
use Rattle.gu_base.specs.declared.command.Part.{Part}
use Rattle.gu_base.specs.declared.node.Node.{Node}

apart : (a b : ℕ) → (a ≡ b → ⊥) → eqb a b ≡ false
apart a b absent = false_from_ne_true (eqb a b) (λ h. absent ((Decides-eqb a b).0 h))

abbrev is_named : EntryPart → Node → Bool
is_named n x = same_name x.name n

part_from : (k i j : ℕ) (n m : EntryPart) (by : List ℕ) (ps : List Part) → k ≡ n.entry → n.part ≡ i + j
    → find (is_named n) (nodes_of_parts k i m by ps)
    ≡ option_map (λ p. record { name = n; lots = p.lots; kind = kind_of_part m by p }) (slice_get ps j)
part_from k i j n m by [] e h = refl
part_from k i zero n m by (p ∷ ps) e h =
    let here : i ≡ n.part = omega arith in
    rw ((Decides-eqb k n.entry).1 e, (Decides-eqb i n.part).1 here)
    (λ t. Some (record { name = record { entry = e t; part = here t }; lots = p.lots; kind = kind_of_part m by p }))
part_from k i (suc j) n m by (p ∷ ps) e h =
    rw (apart i n.part (λ s. omega arith), and-false (eqb k n.entry)) (part_from k (i + 1) j n m by ps e (omega arith))

part_there : (n m : EntryPart) (by : List ℕ) (ps : List Part) → 1 ≤ n.part
    → find (λ x. same_name x.name n) (nodes_of_parts n.entry 1 m by ps)
    ≡ option_map (λ p. record { name = n; lots = p.lots; kind = kind_of_part m by p }) (slice_get ps (n.part - 1))
part_there n m by ps low = part_from n.entry 1 (n.part - 1) n m by ps refl (omega arith)

-- a part lies at the place that its name tells
pub part_read : (n m : EntryPart) (by : List ℕ) (ps : List Part) (p : Part) → 1 ≤ n.part → n.part - 1 < length ps
    → p ≡ get_or ps (n.part - 1) p
    → Some (record { name = n; lots = p.lots; kind = kind_of_part m by p })
    ≡ find (λ x. same_name x.name n) (nodes_of_parts n.entry 1 m by ps)
part_read n m by ps p low within is =
    sym (part_there n m by ps low
    ∙ ap (option_map (λ q. record { name = n; lots = q.lots; kind = kind_of_part m by q }))
    (slice_get_read ps (length ps) (n.part - 1) p refl within is))

pub part_past : (n m : EntryPart) (by : List ℕ) (ps : List Part) → 1 ≤ n.part → length ps ≤ n.part - 1
    → None ≡ find (λ x. same_name x.name n) (nodes_of_parts n.entry 1 m by ps)
part_past n m by ps low past =
    sym (part_there n m by ps low
    ∙ ap (option_map (λ q. record { name = n; lots = q.lots; kind = kind_of_part m by q }))
    (slice_get_past ps (n.part - 1) past))

pub no_low_part : (k i : ℕ) (n m : EntryPart) (by : List ℕ) (ps : List Part) → n.part < i
    → find (is_named n) (nodes_of_parts k i m by ps) ≡ None
no_low_part k i n m by [] below = refl
no_low_part k i n m by (p ∷ ps) below =
    rw (apart i n.part (λ s. omega arith), and-false (eqb k n.entry)) (no_low_part k (i + 1) n m by ps (omega arith))

-- a Split has no part 0
pub no_part_0 : (n m : EntryPart) (by : List ℕ) (ps : List Part) → n.part ≡ 0
    → find (λ x. same_name x.name n) (nodes_of_parts n.entry 1 m by ps) ≡ None
no_part_0 n m by ps zeroth = no_low_part n.entry 1 n m by ps (omega arith)
