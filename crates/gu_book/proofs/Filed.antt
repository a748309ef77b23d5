-- What trees that show a list of changes say of its nodes, and what of them stays where the list has one change more,
-- or one less.
use Rattle.gu_book.proofs.Vocabulary
use Rattle.gu_depend.proofs
use Rattle.gu_tree.specs
use proofs.Finds.{by_test}
use proofs.Vocabulary.{false_from_ne_true, made_of, name_is, none_or_some, or_none, or_parts, Place, split_of, splits}
use Rattle.gu_book.proofs.{ByNumber.{its_maker, its_own, other_made}, Orders.{InOrder, names_node}, Sound.node_push}
use Rattle.{gu_book.specs.Filed.{Follows, IsDue}, gu_tree.proofs.Alike.{IsAlike, node_alike}}
use Rattle.gu_tree.proofs.{Along.{along, IsAlong, path_of}, Parts.some_and, Shows.find_kept, ShowsLess.no_root_part}
use Rattle.std.proofs.lemmas.Bool.{cond_both, eqb-false, ne_eqb, true_from_ne_false}
use specs.{Filing.slot_of, Grove.{ChangesTree, IsSameGrove, place_of, tree_in, tree_of}}
use specs.{Paths.node_at, Rose.{leaf, named, parted, Roses}, Shown.{ArePartsOf, IsNodeOf, IsTreeOf}}
use Vocabulary.{any_in, ap, arith, Command, cond, Contains, decides, EntryPart, eqb-true}
use Vocabulary.{false, find, Grove, Head, head_of, House, inl, inr, is_live_trade, is_trade, IsGroveOf, IsNext, IsPlace}
use Vocabulary.{IsTreeIn, List, maker, name_same, named_node, named_place, names, Node, node_of, nodes_of, None}
use Vocabulary.{none_is_some, NumbersOnce, Option, option_map, place_in, Record, refl, Root, Rose, same_name, same_Some}
use Vocabulary.{Some, Split, subst, sym, Trade, true, unwrap_or, [], ℕ, ◌&&◌, ◌++◌, ◌==◌, ◌∙◌, ◌∷◌, ◌≡◌, ◌≢◌, ◌≤◌}

-- ---- of two groves

-- groves that look alike file the same
pub same_filed : (l : List Record) (old new : Grove) → IsSameGrove old new → IsGroveOf l old → IsGroveOf l new
same_filed l old new same filed = record {
  trees = λ k. subst (IsTreeIn l k) (sym (λ i. tree_in (same.trees i) (slot_of (same.slots i) k))) (filed.trees k);
  places = λ k. cc (filed.places k);
}

pub same_next : (t : House) (l : List Record) (r : Record) (old new : Grove) → IsSameGrove old new → IsNext t l r old
    → IsNext t l r new
same_next t l r old new same next = record {
  filed = same_filed l old new same next.filed;
  later = rw same.slots next.later;
  replayed = next.replayed;
  lawful = next.lawful;
  rises = next.rises;
}

-- where nothing was seen to change first, the change follows all the same
pub follows_same : (r : Record) (old mid new : Grove) → IsSameGrove old mid → Follows r mid new → Follows r old new
follows_same r old mid new same follows t l next = follows t l (same_next t l r old mid same next)

pub due_same : (r : Record) (old new : Grove) → IsSameGrove old new → IsDue r old → IsDue r new
due_same r old new same due = (due.0, due.1, same_next due.0 due.1 r old new same due.2)

-- no trees and no places
pub filed_none : (g : Grove) → ((k : ℕ) → tree_of g k ≡ None) → ((k : ℕ) → place_of g k ≡ None) → IsGroveOf [] g
filed_none g trees places = record { trees = λ k. rw (trees k) refl; places = places }

-- ---- where a node lies

abbrev pub root_name : ℕ → EntryPart
root_name k = record { entry = k; part = 0 }

pub record Spot (l : List Record) (g : Grove) (trade : ℕ) (p : List ℕ) (n : EntryPart) : Type 0 where
  pub tree : Rose
  pub found : tree_of g trade ≡ Some tree
  pub node : Rose
  pub at : node_at p tree ≡ Some node
  pub called : (head_of node).name ≡ n
  pub shown : IsTreeOf l trade tree
  pub said : IsAlong l trade p node

pub tree_shown : {l : List Record} {g : Grove} → IsGroveOf l g → (k : ℕ) (tree : Rose) → tree_of g k ≡ Some tree
    → IsTreeOf l k tree
tree_shown {l} filed k tree e = rw e at (filed.trees k)

pub spot : {l : List Record} {g : Grove} → IsGroveOf l g → InOrder l → (trade : ℕ) (p : List ℕ) (n : EntryPart)
    → IsPlace g n trade p → Spot l g trade p n
spot {l} {g} filed order trade p n place =
    let v = some_and _ _ place.there in
    let shown = tree_shown filed _ _ place.found in
    record {
      tree = place.tree;
      found = place.found;
      node = v.0;
      at = v.1;
      called = v.2;
      shown = shown;
      said = along l order.distinct _ _ shown p v.0 v.1;
    }

-- ---- a node and its Split

-- a node that a Split of the list names has the parts of that Split
pub record IsParted (l : List Record) (r : Record) (v : Rose) : Type 0 where
  pub head : Head
  pub parts : Roses
  pub is : v ≡ parted head r.number parts
  pub are : ArePartsOf l (Some head.place) (nodes_of r.number r.firm r.command) parts

pub parted_by : (l : List Record) (above : Option Place) (x : Node) (r : Record) (v : Rose) → IsNodeOf l above x v
    → split_of l x.name ≡ Some r → IsParted l r v
parted_by l above x r (leaf h) is found = absurd (none_is_some _ r is.1 found)
parted_by l above x r (parted h n ts) is found =
    let same = same_Some is.1.0 r (cc) in
    record {
      head = h;
      parts = ts;
      is = cc;
      are = rw same at is.1.3;
    }

-- one that none names is a leaf
pub record IsWhole (v : Rose) : Type 0 where
  pub head : Head
  pub is : v ≡ leaf head

pub whole_by : (l : List Record) (above : Option Place) (x : Node) (v : Rose) → IsNodeOf l above x v
    → split_of l x.name ≡ None → IsWhole v
whole_by l above x (leaf h) is none = record { head = h; is = refl }
whole_by l above x (parted h n ts) is none = absurd (none_is_some _ _ none is.1.1)

-- ---- roots

-- a Trade alone makes a root
rootless : (k n : ℕ) (by : List ℕ) (c : Command) → is_trade c ≡ false
    → find (λ x. same_name x.name (root_name k)) (nodes_of n by c) ≡ None
rootless k n by (Trade _ _ _ _ _) plain = absurd (cc)
rootless k n by (Split m ps) plain = no_root_part k n 1 m by ps (omega arith)
rootless k n by _ plain = refl

pub makes_root : (k : ℕ) (by : List ℕ) (c : Command) → is_trade c ≡ true
    → (x : Node) × (find (λ x. same_name x.name (root_name k)) (nodes_of k by c) ≡ Some x)
makes_root k by (Trade firm account instrument side lots) is =
    let x : Node =
    record { name = root_name k; lots = lots; kind = Root (record { firm = firm; account = account }) } in
    (x, cc (name_same _))
makes_root k by _ is = absurd (cc)

-- so a tree is that of a live trade
pub live_at : {l : List Record} {g : Grove} → IsGroveOf l g → (k : ℕ) (tree : Rose) → tree_of g k ≡ Some tree
    → is_live_trade l k ≡ true
live_at {l} filed k tree e =
    let is = tree_shown filed k _ e in
    let m = maker l _ _ is.found in
    let same = its_maker l _ _ m in
    let trades = true_from_ne_false _ (λ plain.
    none_is_some (made_of m.change (root_name k)) is.root
    (rootless k m.change.number m.change.firm m.change.command plain) m.makes_it) in
    any_in (λ (r : Record). (r.number == k) && is_trade r.command) l m.change m.among (cc)

-- ---- what a command names

-- what names a node is no Trade, and has the node as its place
pub names_apart : (k : ℕ) (c : Command) (n : EntryPart) → named_node c ≡ Some n
    → (is_trade c ≡ false) × (named_place k c ≡ Some n)
names_apart k (Trade _ _ _ _ _) n e = absurd (cc)
names_apart k _ n e = (refl, e)

told : (m : EntryPart) (o : Option EntryPart) → unwrap_or (option_map (λ n. same_name n m) o) false ≡ true → o ≡ Some m
told m None is = absurd (cc)
told m (Some n) is = cc (name_is n m is)

pub unnamed_by : (m : EntryPart) (c : Command) → (named_node c ≡ Some m → ⊥) → names m c ≡ false
unnamed_by m c never = false_from_ne_true _ (λ yes. never (told m _ (cc (names_node m c))))

-- what has no place in the trees makes no root and names no node
placeless_is : (k : ℕ) (c : Command) → named_place k c ≡ None → (is_trade c ≡ false) × (named_node c ≡ None)
placeless_is k (Trade _ _ _ _ _) e = absurd (cc)
placeless_is k _ e = (refl, e)

-- ---- one change more

-- a change has its own place
pub place_of_own : (l : List Record) (r : Record) → NumbersOnce l → Contains l r
    → place_in l r.number ≡ named_place r.number r.command
place_of_own l r once among = cc (its_own l r once among)

-- ---- one change more or less

-- but for what the change makes and names, the two lists say the same
pub record IsBeside (r : Record) (x y : List Record) : Type 0 where
  pub nodes : (n : EntryPart) → made_of r n ≡ None → node_of y n ≡ node_of x n
  pub alike : (n : EntryPart) → names n r.command ≡ false → IsAlike x y n
  pub places : (k : ℕ) → k ≢ r.number → place_in y k ≡ place_in x k

-- as a list and the same with the change behind it do
pub more_beside : (l : List Record) (r : Record) → IsBeside r l (l ++ r ∷ [])
more_beside l r = record {
  nodes = λ n none. cc (node_push l r n, or_none (node_of l n));
  alike = λ n un.
      let p = or_parts _ _ un in
      record {
        splits = find_kept _ l r p.0;
        decides = find_kept _ l r p.1;
      };
  places = λ k other.
      cc (find_kept (λ (d : Record). d.number == k) l r (ne_eqb r.number k (λ e. other (sym e))));
}

-- the key has this value now, and each other key the one that it had
abbrev pub Alters : {A : Type 0} → (ℕ → A) → (ℕ → A) → ℕ → A → Type 0
Alters old new e x = (k : ℕ) → new k ≡ cond (k == e) x (old k)

module _ {r : Record} {x y : List Record} (b : IsBeside r x y) {g : Grove} (filed : IsGroveOf x g) where
  -- a tree of whose nodes the change names none, and whose root it doesn't make, shows the one as it shows the other
  stays : (k : ℕ) → made_of r (root_name k) ≡ None
      → ((t : Rose) → tree_of g k ≡ Some t → (n : EntryPart) → 1 ≤ named n t → names n r.command ≡ false)
      → IsTreeIn y k (tree_of g k)
  stays k none unnamed = elim (none_or_some (tree_of g k)) [
    | inl absent ↦ rw absent (b.nodes (root_name k) none ∙ rw absent at (filed.trees k))
    | inr t ↦ (
        let is = tree_shown filed k t.0 t.1 in
        let found = b.nodes (root_name k) none ∙ is.found in
        let tree = node_alike x y _ _ t.0 (λ n one. b.alike n (unnamed t.0 t.1 n one)) is.tree in
        rw t.1 (record { root = is.root; found = found; top = is.top; tree = tree }))
  ]

  -- so does each tree, of an Agree or a Raise
  pub apart : named_place r.number r.command ≡ None → place_in y r.number ≡ place_of g r.number → IsGroveOf y g
  apart placeless own =
      let is = placeless_is r.number r.command placeless in
      record {
        trees = λ k. stays k (rootless k r.number r.firm r.command is.0)
            (λ t e n one. unnamed_by n r.command (none_is_some (named_node r.command) n is.1));
        places = λ k. by_test (k == r.number) (λ same. rw (eqb-true k r.number same) (sym own))
            (λ other. cc (filed.places k, b.places k (eqb-false k r.number other)));
      }

  -- the place of the change has become what the other list says
  module _ {h : Grove} {place : Option EntryPart} (places : Alters (place_of g) (place_of h) r.number place)
      (own : place_in y r.number ≡ place) where
    -- so has one tree, and the others show it too
    moved : (trade : ℕ) (tree : Option Rose) → Alters (tree_of g) (tree_of h) trade tree → IsTreeIn y trade tree
        → ((k : ℕ) → k ≢ trade → IsTreeIn y k (tree_of g k)) → IsGroveOf y h
    moved trade tree trees shown others = record {
      trees = λ k.
          rw (trees k) (cond_both _ tree _ (IsTreeIn y k) (λ same. rw (eqb-true k trade same) shown)
          (λ other. others k (eqb-false k trade other)));
      places = λ k. places k ∙ cond_both _ place _ (λ o. o ≡ place_in y k)
          (λ same. cc (eqb-true k r.number same))
          (λ other. cc (filed.places k, b.places k (eqb-false k r.number other)));
    }

    -- the tree of the node that it names gives way to another
    pub changed : {trade : ℕ} {p : List ℕ} {n : EntryPart} → InOrder x → Spot x g trade p n
        → named_node r.command ≡ Some n → (new : Rose) → ChangesTree g h trade new → IsTreeOf y trade new
        → IsGroveOf y h
    changed {trade = trade} {n = n} order s is new trees shown =
        moved _ _ trees shown
        (λ k other. stays k (rootless k _ _ _ (names_apart r.number _ n is).0)
        -- since a node lies in the tree of one trade alone
        (λ t e m one. unnamed_by m _ (λ it.
        let q = path_of m t one in
        let a = along x order.distinct k t (tree_shown filed k t e) q.0 q.1 q.2 in
        let roots = sym a.rooted ∙ (cc (same_Some m n (sym it ∙ is), s.called, s.said.rooted)) in
        other (ap (λ (m : EntryPart). m.entry) (same_Some (root_name k) (root_name trade) roots)))))

    -- the tree of its own number does
    pub rooted : ((n : EntryPart) → names n r.command ≡ false) → (tree : Option Rose)
        → Alters (tree_of g) (tree_of h) r.number tree → IsTreeIn y r.number tree → IsGroveOf y h
    rooted unnamed tree trees shown =
        moved _ _ trees shown
        (λ k other. stays k (other_made r _ (λ e. other (sym e))) (λ t e n one. unnamed n))
