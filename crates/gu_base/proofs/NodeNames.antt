-- Names of nodes, and the changes that make them.
use Rattle.std.proofs.Common.{◌≡◌, ℕ, ◌+◌, Bool, true, false, List, [], ◌∷◌, ◌++◌, refl, sym, ◌∙◌, ap, cond, Option}
use Rattle.std.proofs.Common.{append-nil}
use Rattle.std.specs.Prelude.{Some, None, find, ◌==◌, bytes_eq}
use Rattle.std.specs.Option.{option_or}
use Rattle.std.proofs.lemmas.Bool.{and_parts}
use Rattle.std.proofs.lemmas.Bool.Decides.{Decides-eqb}
use Rattle.std.proofs.lemmas.Grind.{flat_map-append}
use Rattle.std.proofs.lemmas.List.Folds.{find-append}
use Rattle.std.proofs.lemmas.Option.{same_Some}
use Rattle.gu_base.specs.Numbers.{EntryPart}
use Rattle.gu_base.specs.Nodes.{node_of, nodes, nodes_of, nodes_of_parts, same_name, kind_of_part, parent}
use Rattle.gu_base.specs.SameLaws.{same_name-Decides}
use Rattle.gu_base.specs.declared.command.Part.{Part}
use Rattle.gu_base.specs.declared.command.Command.{Command}
use Rattle.gu_base.specs.declared.command.Command.TheVariants.{Trade, Split, Claim, Refuse, Cancel, Agree, Raise}
use Rattle.gu_base.specs.declared.command.Command.TheVariants.{Initiate, Decline, Reverse}
use Rattle.gu_base.specs.declared.entry.Record.{Record}
use Rattle.gu_base.specs.declared.node.Kind.TheVariants.{Root, Own, Given}
use Rattle.gu_base.specs.declared.node.Node.{Node}
use Rattle.gu_base.proofs.Searches.{find_passes}

-- names that pass the test are one name
pub name_told : (a b : EntryPart) → same_name a b ≡ true → (a.entry ≡ b.entry) × (a.part ≡ b.part)
name_told a b h =
    let p = and_parts (a.entry == b.entry) (a.part == b.part) h in
    ((Decides-eqb a.entry b.entry).0 p.0, (Decides-eqb a.part b.part).0 p.1)

pub name_is : (a b : EntryPart) → same_name a b ≡ true → a ≡ b
name_is a b = (same_name-Decides a b).0

pub name_same : (a : EntryPart) → same_name a a ≡ true
name_same a = (same_name-Decides a a).1 refl

-- a node that is found has the name
pub node_called : (l : List Record) (n : EntryPart) (x : Node) → node_of l n ≡ Some x → x.name ≡ n
node_called l n x h = name_is x.name n (find_passes (λ x. same_name x.name n) (nodes l) x h)

-- the nodes that a record makes
abbrev pub made : Record → List Node
made r = nodes_of r.number r.firm r.command

-- the one of this name among them
abbrev pub made_of : Record → EntryPart → Option Node
made_of r n = find (λ x. same_name x.name n) (made r)

-- the nodes of one change more
pub nodes_push : (l : List Record) (r : Record) → nodes (l ++ r ∷ []) ≡ nodes l ++ made r
nodes_push l r =
    flat_map-append (λ r. nodes_of r.number r.firm r.command) l (r ∷ [])
    ∙ ap (λ xs. nodes l ++ xs) (append-nil (made r))

-- a node of two lists together is that of the first, or else that of the second
pub node_cut : (x y : List Record) (n : EntryPart) → node_of (x ++ y) n ≡ option_or (node_of x n) (node_of y n)
node_cut x y n =
    ap (find (λ x. same_name x.name n)) (flat_map-append (λ r. nodes_of r.number r.firm r.command) x y)
    ∙ find-append (λ x. same_name x.name n) (nodes x) (nodes y)

-- where the first test decides
pub first_or : (n m : EntryPart) (y x : Node) (rest : Option Node) (P : Type 0) → (same_name m n ≡ true → y ≡ x → P)
    → (rest ≡ Some x → P) → (b : Bool) → same_name m n ≡ b → cond b (Some y) rest ≡ Some x → P
first_or n m y x rest P here later true is h = here is (same_Some y x h)
first_or n m y x rest P here later false is h = later h

part_entry_or : (n m : EntryPart) (y x : Node) (rest : Option Node) → (rest ≡ Some x → n.entry ≡ m.entry)
    → cond (same_name m n) (Some y) rest ≡ Some x → n.entry ≡ m.entry
part_entry_or n m y x rest later h =
    first_or n m y x rest (n.entry ≡ m.entry) (λ is _. sym ((name_told m n is).0)) later (same_name m n) refl h

-- a part has the number of its Split
pub part_entry : (n m : EntryPart) (k i : ℕ) (by : List ℕ) (ps : List Part) (x : Node)
    → find (λ x. same_name x.name n) (nodes_of_parts k i m by ps) ≡ Some x → n.entry ≡ k
part_entry n m k i by [] x h = absurd (cc)
part_entry n m k i by (p ∷ ps) x h =
    let name : EntryPart = record { entry = k; part = i } in
    part_entry_or n name (record { name = name; lots = p.lots; kind = kind_of_part m by p }) x
    (find (λ x. same_name x.name n) (nodes_of_parts k (i + 1) m by ps)) (part_entry n m k (i + 1) by ps x) h

-- a node has the number of the change that makes it
pub made_entry : (n : EntryPart) (k : ℕ) (by : List ℕ) (c : Command) (x : Node)
    → find (λ x. same_name x.name n) (nodes_of k by c) ≡ Some x → n.entry ≡ k
made_entry n k by (Trade firm account instrument side lots) x h =
    let name : EntryPart = record { entry = k; part = 0 } in
    part_entry_or n name (record { name = name; lots = lots; kind = Root (record { firm = firm; account = account }) })
    x None (λ none. absurd (cc)) h
made_entry n k by (Split m ps) x h = part_entry n m k 1 by ps x h
made_entry n k by (Claim _ _) x h = absurd (cc)
made_entry n k by (Refuse _) x h = absurd (cc)
made_entry n k by (Cancel _) x h = absurd (cc)
made_entry n k by (Agree _ _ _ _) x h = absurd (cc)
made_entry n k by (Raise _ _) x h = absurd (cc)
made_entry n k by (Initiate _) x h = absurd (cc)
made_entry n k by (Decline _) x h = absurd (cc)
made_entry n k by (Reverse _) x h = absurd (cc)

pub parent_by : (b : Bool) (m : EntryPart) (by : List ℕ) (p : Part)
    → parent (cond b (Own m by p.account) (Given m by p.firm)) ≡ Some m
parent_by true m by p = refl
parent_by false m by p = refl

-- a part's parent is the node that was split
pub part_parent : (n m : EntryPart) (k i : ℕ) (by : List ℕ) (ps : List Part) (x : Node)
    → find (λ x. same_name x.name n) (nodes_of_parts k i m by ps) ≡ Some x → parent x.kind ≡ Some m
part_parent n m k i by [] x h = absurd (cc)
part_parent n m k i by (p ∷ ps) x h =
    first_or n (record { entry = k; part = i })
    (record { name = record { entry = k; part = i }; lots = p.lots; kind = kind_of_part m by p }) x
    (find (λ x. same_name x.name n) (nodes_of_parts k (i + 1) m by ps)) (parent x.kind ≡ Some m)
    (λ _ e. sym (ap (λ (z : Node). parent z.kind) e) ∙ parent_by (bytes_eq p.firm by) m by p)
    (part_parent n m k (i + 1) by ps x) (same_name (record { entry = k; part = i }) n) refl h
