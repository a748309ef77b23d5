-- The firms of the given parts of a legal list are in its house table.
use Rattle.std.proofs.Common.{◌≡◌, ℕ, ◌+◌, Bool, true, false, List, [], ◌∷◌, ◌++◌, sym, subst, cond, append_assoc}
use Rattle.std.proofs.Common.{append-nil}
use Rattle.std.specs.Prelude.{⊤, Some, None, map, bytes_eq}
use Rattle.std.specs.List.{All}
use Rattle.std.proofs.lemmas.List.Elements.{All-nil, All-cons, All-append}
use Rattle.gu_base.specs.Numbers.{EntryPart}
use Rattle.gu_base.specs.House.{House, knows_firm}
use Rattle.gu_base.specs.Nodes.{node_of, nodes, nodes_of, nodes_of_parts, same_name}
use Rattle.gu_base.specs.Refusals.{refusal_of, refusal_of_part, first, split_row}
use Rattle.gu_base.specs.Standing.{first_refused}
use Rattle.gu_base.specs.declared.command.Part.{Part}
use Rattle.gu_base.specs.declared.command.Command.{Command}
use Rattle.gu_base.specs.declared.command.Command.TheVariants.{Trade, Split, Claim, Refuse, Cancel, Agree, Raise}
use Rattle.gu_base.specs.declared.command.Command.TheVariants.{Initiate, Decline, Reverse}
use Rattle.gu_base.specs.declared.entry.Record.{Record}
use Rattle.gu_base.specs.declared.node.Kind.{Kind}
use Rattle.gu_base.specs.declared.node.Kind.TheVariants.{Root, Own, Given}
use Rattle.gu_base.specs.declared.node.Node.{Node}
use Rattle.gu_base.proofs.Accepted.{first_none}
use Rattle.gu_base.proofs.LegalLaws.{none_refused}
use Rattle.gu_base.proofs.NodeNames.{made, nodes_push}
use Rattle.gu_base.proofs.Passing.{at_node_none, part_passes, refusal_parts, split_passes}
use Rattle.gu_base.proofs.Searches.{find_has}

-- the giver and the taker of a given part are in the table
abbrev pub KnowsKind : House → Kind → Type 0
KnowsKind t (Root _) = ⊤
KnowsKind t (Own _ _ _) = ⊤
KnowsKind t (Given _ giver taker) = (knows_firm t giver ≡ true) × (knows_firm t taker ≡ true)

-- those of each node are
abbrev pub Knows : House → List Record → Type 0
Knows t l = All (λ x. KnowsKind t x.kind) (nodes l)

pub knows_node : (t : House) (l : List Record) (n : EntryPart) (x : Node) → Knows t l → node_of l n ≡ Some x
    → KnowsKind t x.kind
knows_node t l n x all = find_has (λ x. KnowsKind t x.kind) (λ x. same_name x.name n) (nodes l) x all

kind_known : (t : House) (m : EntryPart) (by : List ℕ) (p : Part) → knows_firm t by ≡ true
    → knows_firm t p.firm ≡ true → (b : Bool) → KnowsKind t (cond b (Own m by p.account) (Given m by p.firm))
kind_known t m by p known firm true = tt
kind_known t m by p known firm false = (known, firm)

parts_known : (t : House) (k i : ℕ) (m : EntryPart) (by : List ℕ) (ps : List Part) → knows_firm t by ≡ true
    → first (map (refusal_of_part t by) ps) ≡ None → All (λ x. KnowsKind t x.kind) (nodes_of_parts k i m by ps)
parts_known t k i m by [] known h = All-nil (λ (x : Node). KnowsKind t x.kind)
parts_known t k i m by (p ∷ ps) known h =
    let q = first_none (refusal_of_part t by p) (map (refusal_of_part t by) ps) h in
    All-cons (λ (x : Node). KnowsKind t x.kind) _ (nodes_of_parts k (i + 1) m by ps)
    (kind_known t m by p known (part_passes t by p q.0).0 (bytes_eq p.firm by))
    (parts_known t k (i + 1) m by ps known q.1)

-- the nodes that an accepted change makes
made_known : (t : House) (l : List Record) (k : ℕ) (by : List ℕ) (c : Command) → refusal_of t l by c ≡ None
    → All (λ x. KnowsKind t x.kind) (nodes_of k by c)
made_known t l k by (Trade _ _ _ _ _) h =
    All-cons (λ (x : Node). KnowsKind t x.kind) _ [] tt (All-nil (λ (x : Node). KnowsKind t x.kind))
made_known t l k by (Split m ps) h =
    let p = refusal_parts t l by (Split m ps) h in
    let there = at_node_none (split_row t l by ps) (node_of l m) p.1 in
    let passes = split_passes t l by ps there.0 there.1.1 in
    parts_known t k 1 m by ps p.0 passes.0.parts
made_known t l k by (Claim _ _) h = All-nil (λ (x : Node). KnowsKind t x.kind)
made_known t l k by (Refuse _) h = All-nil (λ (x : Node). KnowsKind t x.kind)
made_known t l k by (Cancel _) h = All-nil (λ (x : Node). KnowsKind t x.kind)
made_known t l k by (Agree _ _ _ _) h = All-nil (λ (x : Node). KnowsKind t x.kind)
made_known t l k by (Raise _ _) h = All-nil (λ (x : Node). KnowsKind t x.kind)
made_known t l k by (Initiate _) h = All-nil (λ (x : Node). KnowsKind t x.kind)
made_known t l k by (Decline _) h = All-nil (λ (x : Node). KnowsKind t x.kind)
made_known t l k by (Reverse _) h = All-nil (λ (x : Node). KnowsKind t x.kind)

pub knows_none : (t : House) → Knows t []
knows_none t = All-nil (λ (x : Node). KnowsKind t x.kind)

-- one accepted change more
pub knows_push : (t : House) (l : List Record) (r : Record) → Knows t l → refusal_of t l r.firm r.command ≡ None
    → Knows t (l ++ r ∷ [])
knows_push t l r all h =
    subst (All (λ (x : Node). KnowsKind t x.kind)) (sym (nodes_push l r))
    (All-append (λ (x : Node). KnowsKind t x.kind) (nodes l) (made r) all
    (made_known t l r.number r.firm r.command h))

-- along a list of which none is refused
pub knows_along : (t : House) (before rest : List Record) → Knows t before → first_refused t before rest ≡ None
    → Knows t (before ++ rest)
knows_along t before [] all h = subst (Knows t) (sym (append-nil before)) all
knows_along t before (r ∷ rest) all h =
    let p = none_refused (refusal_of t before r.firm r.command) r.number (first_refused t (before ++ r ∷ []) rest) h in
    subst (Knows t) (append_assoc before (r ∷ []) rest)
    (knows_along t (before ++ r ∷ []) rest (knows_push t before r all p.0) p.1)

pub knows_legal : (t : House) (l : List Record) → first_refused t [] l ≡ None → Knows t l
knows_legal t l = knows_along t [] l (knows_none t)
