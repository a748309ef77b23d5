-- What the node at a path of a tree tells of a list of changes that the tree shows.
use Rattle.gu_tree.proofs
use proofs.{Alike.root_name, Along.own_head, FirstOn.{parts_numbers, shown_at}}
use proofs.Vocabulary.{decision_of, flat_map, head_of, leaf, List, Node, node_at}
use proofs.Vocabulary.{node_of, Option, option_map, parted, parts_of, Place, Record, refl, Rose, Some, split_of, ℕ, ◌≡◌}
use Rattle.gu_tree.specs.{NumbersOn.{numbers_on, numbers_on_parts}, Rose.split_of_node, Shown.{IsNodeOf, IsTreeOf}}

split_told : (l : List Record) (above : Option Place) (x : Node) (t : Rose) → IsNodeOf l above x t
    → option_map (λ s. s.0) (split_of_node t) ≡ option_map (λ r. r.number) (split_of l x.name)
split_told l above x (leaf h) is = rw is.1 refl
split_told l above x (parted h n ts) is = rw (is.1.1, is.1.2) refl

-- what is told of the node, and of the tree's own trade
pub record IsToldAt (l : List Record) (trade : ℕ) (v : Rose) : Type 0 where
  pub split : option_map (λ s. s.0) (split_of_node v) ≡ option_map (λ r. r.number) (split_of l (head_of v).name)
  pub decision : (head_of v).decision ≡ option_map (λ r. r.number) (decision_of l (head_of v).name)
  pub parts : numbers_on_parts v ≡ flat_map (λ x. numbers_on l x.name) (parts_of l (head_of v).name)
  pub rooted : (head_of v).name.part ≡ 0 → (head_of v).name.entry ≡ trade
  pub root : Node
  pub has_root : node_of l (root_name trade) ≡ Some root

pub told_at : (l : List Record) (trade : ℕ) (t : Rose) → IsTreeOf l trade t → (p : List ℕ) (v : Rose)
    → node_at p t ≡ Some v → IsToldAt l trade v
told_at l trade t is p v led =
    let s = shown_at l trade t is p v led in
    let head = own_head l s.above s.node v s.shown in
    record {
      split = rw head.name (split_told l s.above s.node v s.shown);
      decision = rw head.name head.decision;
      parts = rw head.name (parts_numbers l s.above s.node v s.shown);
      rooted = rw head.name s.here;
      root = is.root;
      has_root = is.found;
    }
