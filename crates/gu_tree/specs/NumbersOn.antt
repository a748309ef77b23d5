-- The numbers of the Splits and the decisions that stand on nodes, and the least of them.
use Rattle.std.specs.Prelude.{ℕ, min, List, [], ◌∷◌, ◌++◌, Option, Some, None}
use Rattle.std.specs.Option.{option_to_list}
use Rattle.gu_base.specs.Numbers.{EntryPart}
use Rattle.gu_base.specs.Nodes.{split_of, decision_of}
use Rattle.gu_base.specs.declared.entry.Record.{Record}
use Rattle.gu_tree.specs.Rose.{Rose, Roses, leaf, parted, no_parts, part_then}

abbrev pub number_in : Option Record → List ℕ
number_in None = []
number_in (Some r) = r.number ∷ []

-- the numbers of a node's Split and of its decision
abbrev pub numbers_on : List Record → EntryPart → List ℕ
numbers_on l n = number_in (split_of l n) ++ number_in (decision_of l n)

abbrev pub least_with : ℕ → Option ℕ → ℕ
least_with n None = n
least_with n (Some m) = min n m

-- the least of some numbers
abbrev pub least : List ℕ → Option ℕ
least [] = None
least (n ∷ ns) = Some (least_with n (least ns))

-- the lesser of two numbers of which either may be missing
abbrev pub lesser : Option ℕ → Option ℕ → Option ℕ
lesser None b = b
lesser (Some a) b = Some (least_with a b)

-- the same numbers as a node of a tree keeps them
abbrev pub numbers_at : Rose → List ℕ
numbers_at (leaf h) = option_to_list h.decision
numbers_at (parted h n ts) = n ∷ option_to_list h.decision

-- those of each of the parts
abbrev pub numbers_at_each : Roses → List ℕ
numbers_at_each no_parts = []
numbers_at_each (part_then t ts) = numbers_at t ++ numbers_at_each ts

-- those of the parts of a node; a leaf has none
abbrev pub numbers_on_parts : Rose → List ℕ
numbers_on_parts (leaf h) = []
numbers_on_parts (parted h n ts) = numbers_at_each ts
