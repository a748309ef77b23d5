-- What later changes leave of a node's line.
use Rattle.std.proofs.Common.{◌≡◌, ℕ, zero, suc, ◌+◌, ◌-◌, min, ◌<◌, ◌≤◌, List, [], ◌∷◌, ◌++◌, length, refl, sym, ◌∙◌}
use Rattle.std.proofs.Common.{ap, arith, Option}
use Rattle.std.specs.Prelude.{Some, None, find, option_and_then}
use Rattle.std.specs.Option.{option_or}
use Rattle.std.proofs.lemmas.List.Folds.{find-append}
use Rattle.std.proofs.lemmas.Grind.{flat_map-append}
use Rattle.gu_base.specs.Numbers.{EntryPart}
use Rattle.gu_base.specs.declared.entry.Record.{Record}
use Rattle.gu_base.specs.Nodes.{node_of, nodes, nodes_of, same_name, parent}
use Rattle.gu_base.specs.Places.{line_within, line_of}
use Rattle.gu_base.specs.declared.node.Node.{Node}
use Rattle.gu_base.proofs.NodeNames.{made_entry}

-- the node above a node is there
pub record HasParents (l : List Record) : Type 0 where
  pub there : (n m : EntryPart) (x : Node) → node_of l n ≡ Some x → parent x.kind ≡ Some m
      → (y : Node) × (node_of l m ≡ Some y)

-- a node that is found is found after more changes too
pub node_more : (l k : List Record) (n : EntryPart) (x : Node) → node_of l n ≡ Some x → node_of (l ++ k) n ≡ Some x
node_more l k n x found =
    ap (find (λ x. same_name x.name n)) (flat_map-append (λ r. nodes_of r.number r.firm r.command) l k)
    ∙ (find-append (λ x. same_name x.name n) (nodes l) (nodes k)
    ∙ ap (λ o. option_or o (node_of k n)) found)

-- the node above a node has a lower number
pub record Falls (l : List Record) : Type 0 where
  pub lower : (n m : EntryPart) (x y : Node) → node_of l n ≡ Some x → parent x.kind ≡ Some m → node_of l m ≡ Some y
      → m.entry < n.entry

-- ---- as many steps as there are changes

abbrev up_to : ℕ → Record → ℕ
up_to n r = min 1 (suc n - r.number)

-- how many records have this number or a lower one
abbrev count_up_to : ℕ → List Record → ℕ
count_up_to n [] = 0
count_up_to n (r ∷ rs) = up_to n r + count_up_to n rs

count_up_to_length : (n : ℕ) (l : List Record) → count_up_to n l ≤ length l
count_up_to_length n [] = omega arith
count_up_to_length n (r ∷ rs) = omega (arith, count_up_to_length n rs)

count_up_to_later : (n k : ℕ) (l : List Record) → n ≤ k → count_up_to n l ≤ count_up_to k l
count_up_to_later n k [] h = omega arith
count_up_to_later n k (r ∷ rs) h = omega (arith, count_up_to_later n k rs h)

up_to_falls_by : (m : ℕ) (s : Record) (l : List Record) (n : EntryPart) (x : Node) → node_of (s ∷ l) n ≡ Some x
    → m < n.entry → (node_of l n ≡ Some x → count_up_to m l + 1 ≤ count_up_to n.entry l) → (o : Option Node)
    → find (λ x. same_name x.name n) (nodes_of s.number s.firm s.command) ≡ o
    → count_up_to m (s ∷ l) + 1 ≤ count_up_to n.entry (s ∷ l)
up_to_falls_by m s l n x e h rest None q =
    let found : node_of l n ≡ Some x = ap (λ o. option_or o (node_of l n)) (sym q)
    ∙ (sym (find-append (λ x. same_name x.name n) (nodes_of s.number s.firm s.command) (nodes l)) ∙ e) in
    omega (arith, rest found)
up_to_falls_by m s l n x e h rest (Some y) q =
    let entry : n.entry ≡ s.number = made_entry n s.number s.firm s.command y q in
    let later = count_up_to_later m n.entry l (omega (arith, h)) in
    omega (arith, later, entry)

up_to_falls : (m : ℕ) (l : List Record) (n : EntryPart) (x : Node) → node_of l n ≡ Some x → m < n.entry
    → count_up_to m l + 1 ≤ count_up_to n.entry l
up_to_falls m [] n x e h = absurd (cc)
up_to_falls m (s ∷ l) n x e h =
    up_to_falls_by m s l n x e h (λ found. up_to_falls m l n x found h)
    (find (λ x. same_name x.name n) (nodes_of s.number s.firm s.command)) refl

-- nodes have positive numbers, and each node above one a lower one
pub record NumbersFall (l : List Record) : Type 0 where
  pub positive : (n : EntryPart) (x : Node) → node_of l n ≡ Some x → 1 ≤ n.entry
  pub falls : Falls l

few_node : (f g : ℕ) (l : List Record) (fall : NumbersFall l)
    → ((m : EntryPart) (y : Node) → node_of l m ≡ Some y → count_up_to m.entry l ≤ f → count_up_to m.entry l ≤ g
    → line_within f l (Some y) ≡ line_within g l (Some y))
    → (n m : EntryPart) (x : Node) → node_of l n ≡ Some x → count_up_to n.entry l ≤ suc f
    → count_up_to n.entry l ≤ suc g → parent x.kind ≡ Some m → (o : Option Node) → node_of l m ≡ o
    → line_within f l o ≡ line_within g l o
few_node f g l fall same n m x found a b up None e = refl
few_node f g l fall same n m x found a b up (Some y) e =
    let fewer = up_to_falls m.entry l n x found (fall.falls.lower n m x y found up e) in
    same m y e (omega (arith, fewer, a)) (omega (arith, fewer, b))

few_above : (f g : ℕ) (l : List Record) (fall : NumbersFall l)
    → ((m : EntryPart) (y : Node) → node_of l m ≡ Some y → count_up_to m.entry l ≤ f → count_up_to m.entry l ≤ g
    → line_within f l (Some y) ≡ line_within g l (Some y))
    → (n : EntryPart) (x : Node) → node_of l n ≡ Some x → count_up_to n.entry l ≤ suc f → count_up_to n.entry l ≤ suc g
    → (o : Option EntryPart) → parent x.kind ≡ o
    → line_within f l (option_and_then (node_of l) o) ≡ line_within g l (option_and_then (node_of l) o)
few_above f g l fall same n x found a b None up = refl
few_above f g l fall same n x found a b (Some m) up = few_node f g l fall same n m x found a b up (node_of l m) refl

few : (f g : ℕ) (l : List Record) (fall : NumbersFall l) (n : EntryPart) (x : Node) → node_of l n ≡ Some x
    → count_up_to n.entry l ≤ f → count_up_to n.entry l ≤ g → line_within f l (Some x) ≡ line_within g l (Some x)
few zero g l fall n x found a b =
    let some = up_to_falls 0 l n x found (fall.positive n x found) in absurd (omega (arith, some, a))
few (suc f) zero l fall n x found a b =
    let some = up_to_falls 0 l n x found (fall.positive n x found) in absurd (omega (arith, some, b))
few (suc f) (suc g) l fall n x found a b =
    ap (λ xs. x ∷ xs) (few_above f g l fall (few f g l fall) n x found a b (parent x.kind) refl)

number_node : (f g : ℕ) (l : List Record) (fall : NumbersFall l)
    → ((m : EntryPart) (y : Node) → node_of l m ≡ Some y → m.entry ≤ f → m.entry ≤ g
    → line_within f l (Some y) ≡ line_within g l (Some y))
    → (n m : EntryPart) (x : Node) → node_of l n ≡ Some x → n.entry ≤ suc f → n.entry ≤ suc g → parent x.kind ≡ Some m
    → (o : Option Node) → node_of l m ≡ o → line_within f l o ≡ line_within g l o
number_node f g l fall same n m x found a b up None e = refl
number_node f g l fall same n m x found a b up (Some y) e =
    let lower : m.entry < n.entry = fall.falls.lower n m x y found up e in
    same m y e (omega (arith, lower, a)) (omega (arith, lower, b))

number_above : (f g : ℕ) (l : List Record) (fall : NumbersFall l)
    → ((m : EntryPart) (y : Node) → node_of l m ≡ Some y → m.entry ≤ f → m.entry ≤ g
    → line_within f l (Some y) ≡ line_within g l (Some y))
    → (n : EntryPart) (x : Node) → node_of l n ≡ Some x → n.entry ≤ suc f → n.entry ≤ suc g → (o : Option EntryPart)
    → parent x.kind ≡ o
    → line_within f l (option_and_then (node_of l) o) ≡ line_within g l (option_and_then (node_of l) o)
number_above f g l fall same n x found a b None up = refl
number_above f g l fall same n x found a b (Some m) up =
    number_node f g l fall same n m x found a b up (node_of l m) refl

by_number : (f g : ℕ) (l : List Record) (fall : NumbersFall l) (n : EntryPart) (x : Node) → node_of l n ≡ Some x
    → n.entry ≤ f → n.entry ≤ g → line_within f l (Some x) ≡ line_within g l (Some x)
by_number zero g l fall n x found a b = let some = fall.positive n x found in absurd (omega (arith, some, a))
by_number (suc f) zero l fall n x found a b = let some = fall.positive n x found in absurd (omega (arith, some, b))
by_number (suc f) (suc g) l fall n x found a b =
    ap (λ xs. x ∷ xs) (number_above f g l fall (by_number f g l fall) n x found a b (parent x.kind) refl)

-- the line of a node, in as many steps as there are changes or more
pub line_long : (f : ℕ) (l : List Record) (fall : NumbersFall l) (n : EntryPart) (x : Node) → node_of l n ≡ Some x
    → length l ≤ f → line_of l n ≡ line_within f l (Some x)
line_long f l fall n x found far =
    let low = count_up_to_length n.entry l in
    ap (line_within (length l) l) found ∙ few (length l) f l fall n x found low (omega (arith, low, far))

-- and in as many as its number or more
pub line_by_number : (f : ℕ) (l : List Record) (fall : NumbersFall l) (n : EntryPart) (x : Node) → node_of l n ≡ Some x
    → n.entry ≤ f → line_of l n ≡ line_within f l (Some x)
line_by_number f l fall n x found far =
    line_long (length l + suc f) l fall n x found (omega arith)
    ∙ by_number (length l + suc f) f l fall n x found (omega (arith, far)) far
