-- The least number that stands on the parts of a node, and which it is in a list that the tree shows.
use Rattle.gu_tree.proofs.Vocabulary
use Rattle.gu_tree.specs
use Rattle.gu_tree.proofs.{Alike.root_name, Along.{IsReached, reach}, Parts.over_more}
use Rattle.std.specs.{List.AllByRecursion, Option.option_to_list}
use specs.Changes.{are_undecided_leaves, is_undecided_leaf}
use specs.NumbersOn.{least, lesser, number_in, numbers_at, numbers_at_each, numbers_on, numbers_on_parts}
use specs.Shown.{ArePartsOf, IsNodeOf, IsTreeOf}
use Vocabulary.{and_parts}
use Vocabulary.{ap, append-nil, append_assoc, arith, Command, decision_of, EntryPart, find_passes, flat_map, from_list}
use Vocabulary.{get_or, Head, height_of, leaf, length, List, min, no_parts, Node, node_at, node_called, nodes_of}
use Vocabulary.{nodes_of_parts, None, none_told, Option, option_map, Part, part_then, parted, parts_of, Place, Record}
use Vocabulary.{refl, Rose, Roses, Some, Split, splits, sym, take, true, [], ℕ, ◌++◌, ◌+◌, ◌<◌, ◌∙◌, ◌∷◌, ◌≡◌, ◌≤◌}

-- ---- the least of two lists of numbers

lesser_assoc : (a b c : Option ℕ) → lesser (lesser a b) c ≡ lesser a (lesser b c)
lesser_assoc None b c = refl
lesser_assoc (Some n) None c = refl
lesser_assoc (Some n) (Some m) None = refl
lesser_assoc (Some n) (Some m) (Some k) = let least : min (min n m) k ≡ min n (min m k) = omega arith in cc

pub least_append : (ns ms : List ℕ) → least (ns ++ ms) ≡ lesser (least ns) (least ms)
least_append [] ms = refl
least_append (n ∷ ns) ms = ap (lesser (Some n)) (least_append ns ms) ∙ sym (lesser_assoc (Some n) (least ns) (least ms))

-- ---- the numbers at the first parts of a node

pub least_more : (xs : List Rose) (i : ℕ) (u : Rose) → i < length xs → u ≡ get_or xs i u
    → least (numbers_at_each (from_list (take (i + 1) xs)))
    ≡ lesser (least (numbers_at_each (from_list (take i xs)))) (least (numbers_at u))
least_more xs i u within is =
    ap least (over_more [] (λ a b. a ++ b) (λ _. refl) append-nil append_assoc numbers_at
    numbers_at_each refl (λ t ts. refl) xs i u within is)
    ∙ least_append (numbers_at_each (from_list (take i xs))) (numbers_at u)

-- ---- where nothing stands on the parts

undecided_numbers : (t : Rose) → is_undecided_leaf t ≡ true → numbers_at t ≡ []
undecided_numbers (leaf h) is = ap option_to_list (none_told h.decision is)
undecided_numbers (parted h n ts) is = absurd (cc)

undecided_each : (ts : Roses) → are_undecided_leaves ts ≡ true → numbers_at_each ts ≡ []
undecided_each no_parts is = refl
undecided_each (part_then t ts) is =
    let b = and_parts (is_undecided_leaf t) (are_undecided_leaves ts) is in
    rw (undecided_numbers t b.0, undecided_each ts b.1) refl

pub first_of_none : (t : Rose) (h : Head) (n : ℕ) (xs : List Rose) → parted h n (from_list xs) ≡ t
    → are_undecided_leaves (from_list xs) ≡ true → None ≡ least (numbers_on_parts t)
first_of_none t h n xs opened is = rw (← opened, undecided_each (from_list xs) is) refl

pub ruleset first_steps = (first_of_none, least_more)

-- ---- parts are counted from 1

-- a node of part 0 is the root of this trade
abbrev pub IsCounted : ℕ → ℕ → Option Place → Node → Type 0
IsCounted trade d above x = x.name.part ≡ 0 → x.name.entry ≡ trade

parts_counted : (trade d : ℕ) (above : Option Place) (k i : ℕ) (up : EntryPart) (by : List ℕ) (ps : List Part) → 1 ≤ i
    → AllByRecursion (IsCounted trade d above) (nodes_of_parts k i up by ps)
parts_counted trade d above k i up by [] low = tt
parts_counted trade d above k i up by (p ∷ ps) low =
    (λ none. absurd (omega arith), parts_counted trade d above k (i + 1) up by ps (omega arith))

split_counted : (trade d : ℕ) (above : Option Place) (n : EntryPart) (k : ℕ) (by : List ℕ) (c : Command)
    → splits n c ≡ true → AllByRecursion (IsCounted trade d above) (nodes_of k by c)
split_counted trade d above n k by (Split up ps) names = parts_counted trade d above k 1 up by ps (omega arith)
split_counted trade d above n k by _ names = absurd (cc)

-- ---- in a list that the tree shows

decided_number : (o : Option Record) → option_to_list (option_map (λ r. r.number) o) ≡ number_in o
decided_number None = refl
decided_number (Some r) = refl

module _ (l : List Record) where
  node_numbers : (above : Option Place) (x : Node) (t : Rose) → IsNodeOf l above x t
      → numbers_at t ≡ numbers_on l x.name
  node_numbers above x (leaf h) is = rw ((is.0).decision, is.1) (decided_number (decision_of l x.name))
  node_numbers above x (parted h n ts) is = rw ((is.0).decision, is.1.1, ← is.1.2, decided_number) refl

  each_numbers : (above : Option Place) (xs : List Node) (ts : Roses) → ArePartsOf l above xs ts
      → numbers_at_each ts ≡ flat_map (λ x. numbers_on l x.name) xs
  each_numbers above [] no_parts is = refl
  each_numbers above (x ∷ xs) (part_then t ts) is =
      let first = node_numbers above x t is.0 in
      let rest = each_numbers above xs ts is.1 in
      λ i. first i ++ rest i
  each_numbers above _ _ is = absurd is

  pub parts_numbers : (above : Option Place) (x : Node) (t : Rose) → IsNodeOf l above x t
      → numbers_on_parts t ≡ flat_map (λ x. numbers_on l x.name) (parts_of l x.name)
  parts_numbers above x (leaf h) is = rw is.1 refl
  parts_numbers above x (parted h n ts) is =
      rw is.1.1 (each_numbers (Some h.place) (nodes_of is.1.0.number is.1.0.firm is.1.0.command) ts is.1.3)

  pub shown_at : (trade : ℕ) (t : Rose) → IsTreeOf l trade t → (p : List ℕ) (v : Rose) → node_at p t ≡ Some v
      → IsReached l (IsCounted trade) (length p) v
  shown_at trade t is p v led =
      let name = node_called l (root_name trade) is.root is.found in
      reach l (1 + height_of t) (IsCounted trade)
      (λ d above x here h r within its split.
      split_counted trade (d + 1) (Some h.place) x.name r.number r.firm r.command
      (find_passes (λ r. splits x.name r.command) l r split))
      0 p v (length p) (omega arith) None is.root t (omega arith) (λ none. cc name) is.tree led
