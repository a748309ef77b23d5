-- In whatever trees a list of changes has, a node lies at one place.
use Rattle.gu_book.proofs
use Rattle.gu_tree.specs
use proofs.{Filed.{parted_by, root_name, same_filed, Spot, spot, tree_shown}, FiledChanges.{from_tree, its_head, order}}
use proofs.{Orders.{in_order, InOrder, names_there}, Vocabulary.{ap, arith, Command, EntryPart}}
use proofs.Vocabulary.{find, Found, found_once, Grove, head_of, held_above, held_at, House, IsGroveOf, IsNext, IsPlace}
use proofs.Vocabulary.{IsSomeAnd, IsTreeIn, length, List, maker, Named, named_node, named_once, Node, node_of, nodes_of}
use proofs.Vocabulary.{None, none_is_some, Option, option_and_then, option_map, parent, part_parent, Record, refl, Rose}
use proofs.Vocabulary.{same_name, same_Some, Some, Split, subst, suc, sym, Trade, [], ℕ, ◌++◌, ◌<◌, ◌==◌, ◌∙◌, ◌∷◌, ◌≡◌}
use Rattle.gu_book.specs.Found.{AreTreesOf, IsFoundAs, IsFoundIn, IsFoundThere, IsNamedIn, LiesThere}
use Rattle.gu_depend.proofs.{Finds.by_test, Grown.made_by_split, Vocabulary.{cond_both, Deal, deal_in}}
use Rattle.gu_depend.proofs.Vocabulary.{name_is, no_some, node_called, Place, place_of, refusal_parts, split_of, zero}
use Rattle.gu_tree.proofs.{Along.own_head, Parts.{at_there, node_at_further, some_and}, ToldAt.told_at}
use specs.{Grove.{HasTree, IsSameGrove, tree_of}, Paths.{LeadsTo, node_at, part_at}}
use specs.{Rose.{leaf, no_parts, part_then, parted, Roses, split_of_node}, Shown.{ArePartsOf, IsNodeOf, IsTreeOf}}

-- the path leads to a node of this name
abbrev Leads : List ℕ → EntryPart → Option Rose → Type 0
Leads p name o = IsSomeAnd (option_and_then (node_at p) o) (λ w. (head_of w).name ≡ name)

mutual
  -- two trees that show one node have nodes of one name at each path
  pub alike : (l : List Record) (a b : Option Place) (x : Node) (t u : Rose) → IsNodeOf l a x t → IsNodeOf l b x u
      → (p : List ℕ) (v : Rose) → node_at p t ≡ Some v → LeadsTo p u (head_of v).name
  alike l a b x t u is other [] v e = cc (same_Some t v e, (own_head l b x u other).name, (own_head l a x t is).name)
  alike l a b x (leaf h) u is other (i ∷ p) v e = absurd (cc)
  alike l a b x (parted h n ts) (leaf k) is other (i ∷ p) v e =
      let z : Some is.1.0 ≡ None = cc in absurd (cc)
  alike l a b x (parted h n ts) (parted k m us) is other (i ∷ p) v e =
      let same = same_Some is.1.0 other.1.0 (cc) in
      let mine = rw same at is.1.3 in
      parts_alike l (Some h.place) (Some k.place) (nodes_of other.1.0.number other.1.0.firm other.1.0.command) ts us
      mine other.1.3 i p v e

  parts_alike : (l : List Record) (a b : Option Place) (xs : List Node) (ts us : Roses) → ArePartsOf l a xs ts
      → ArePartsOf l b xs us → (i : ℕ) (p : List ℕ) (v : Rose) → option_and_then (node_at p) (part_at i ts) ≡ Some v
      → Leads p (head_of v).name (part_at i us)
  parts_alike l a b [] no_parts us is other i p v e = absurd (cc)
  parts_alike l a b (x ∷ xs) (part_then t ts) no_parts is other i p v e = absurd other
  parts_alike l a b (x ∷ xs) (part_then t ts) (part_then u us) is other zero p v e =
      alike l a b x t u is.0 other.0 p v e
  parts_alike l a b (x ∷ xs) (part_then t ts) (part_then u us) is other (suc i) p v e =
      parts_alike l a b xs ts us is.1 other.1 i p v e
  parts_alike l a b _ _ us is other i p v e = absurd is

-- where some trees have one of a trade, all have
there_too : {l : List Record} (k : ℕ) (o : Option Rose) → IsTreeIn l k o → (t : Rose) → IsTreeOf l k t
    → (u : Rose) × (o ≡ Some u)
there_too {l} k None is t shown = absurd (none_is_some _ _ is shown.found)
there_too k (Some u) is t shown = (u, refl)

-- what trees of the changes have at a place, all trees of the changes have there
pub one_place : {l : List Record} {g : Grove} → IsGroveOf l g → (n : EntryPart) (trade : ℕ) (p : List ℕ)
    → IsPlace g n trade p → (h : Grove) → IsGroveOf l h → IsPlace h n trade p
one_place {l} {g} filed n trade p place h others =
    let mine = tree_shown filed _ _ place.found in
    let u = there_too _ _ (others.trees trade) _ mine in
    let its = tree_shown others _ u.0 u.1 in
    let v = some_and _ _ place.there in
    let root : its.root ≡ mine.root = same_Some its.root mine.root (cc) in
    let shows = rw root at its.tree in
    record {
      tree = u.0;
      found = u.1;
      there = rw v.2 at (alike l None None mine.root place.tree u.0 mine.tree shows p v.0 v.1);
    }

-- what was found at a place lies there
pub lies_there : {l : List Record} {g : Grove} → IsGroveOf l g → (n : EntryPart) (m : Named) (trade : ℕ) (p : List ℕ)
    → m.node.name ≡ n → m.found.trade ≡ trade → IsPlace g n trade p → LiesThere l (Some m) p
lies_there filed n m trade p called same place = one_place filed _ _ p (rw (called, same) place)

-- what a command names was found there, where the changes make it
pub found_there : (l : List Record) (g : Grove) (k : Option EntryPart) (o : Option Named) (p : List ℕ) → IsGroveOf l g
    → IsNamedIn l k o → LiesThere l o p → ((n : EntryPart) → k ≡ Some n → (x : Node) × (node_of l n ≡ Some x))
    → IsFoundThere g k o p
found_there l g None o p filed is lies there = tt
found_there l g (Some n) None p filed is lies there =
    let x = there n refl in let z : None ≡ Some x.0 = cc in absurd (cc)
found_there l g (Some n) (Some m) p filed is lies there = rw is.1 at (lies g filed)

-- that is where the node lies that the next change names
pub named_spot : {t : House} {l : List Record} {r : Record} {g : Grove} → IsNext t l r g → (o : Option Named)
    (p : List ℕ) → IsFoundThere g (named_node r.command) o p → (n : EntryPart) → named_node r.command ≡ Some n
    → (m : Named) → o ≡ Some m → Spot l g m.found.trade p n
named_spot {r = r} next o p there n named m e = spot next.filed (order next) _ p n (rw (named, e) at there)

-- what the next change names was found there, in trees that look alike too
pub next_there : {t : House} {l : List Record} {r : Record} {g : Grove} → IsNext t l r g → (new : Grove)
    → IsSameGrove g new → (o : Option Named) (p : List ℕ) → IsNamedIn l (named_node r.command) o → LiesThere l o p
    → IsFoundThere new (named_node r.command) o p
next_there {t} {l} {r} {g} next new same o p named lies =
    found_there l new _ o p (same_filed l g new same next.filed) named lies
    (λ n names. names_there t l r.firm _ n (refusal_parts t l _ r.command next.lawful).1 names)

-- ---- what the trees say of a node is what the changes say of it

-- a part that is found among the nodes of a Split is one of the parts in the tree
abbrev IsPart : EntryPart → Roses → Type 0
IsPart n ts = (i : ℕ) × (w : Rose) × (part_at i ts ≡ Some w) × ((head_of w).name ≡ n)

part_lies : (l : List Record) (a : Option Place) (n : EntryPart) (xs : List Node) (ts : Roses) (x : Node)
    → ArePartsOf l a xs ts → find (λ y. same_name y.name n) xs ≡ Some x → IsPart n ts
part_lies l a n [] ts x are h = absurd (cc)
part_lies l a n (y ∷ ys) no_parts x are h = absurd are
part_lies l a n (y ∷ ys) (part_then t ts) x are h =
    cond_both _ _ (find (λ y. same_name y.name n) ys) (λ o. o ≡ Some x → IsPart n (part_then t ts))
    (λ is _. (zero, t, refl, (own_head l a y t are.0).name ∙ name_is y.name n is))
    (λ _ later. let q = part_lies l a n ys ts x are.1 later in (suc q.0, q.1, q.2, q.3)) h

-- a node without a parent is a root
root_made : (n : EntryPart) (k : ℕ) (by : List ℕ) (c : Command) (x : Node)
    → find (λ x. same_name x.name n) (nodes_of k by c) ≡ Some x → parent x.kind ≡ None → root_name k ≡ n
root_made n k by (Trade firm account instrument side lots) x h top =
    by_test (same_name (root_name k) n) (λ is. name_is _ n is) (λ other. absurd (cc (other, h)))
root_made n k by (Split m ps) x h top = absurd (none_is_some _ m top (part_parent n m k 1 by ps x h))
root_made n k by _ x h top = absurd (cc)

abbrev Lies : Grove → EntryPart → Type 0
Lies g n = (trade : ℕ) × (p : List ℕ) × IsPlace g n trade p

module _ {l : List Record} {g : Grove} (are : AreTreesOf l g) where
  pub order_of : InOrder l
  order_of = in_order are.house l are.replayed are.rises

  root_lies : (k : ℕ) (x : Node) → node_of l (root_name k) ≡ Some x → (o : Option Rose) → tree_of g k ≡ o
      → IsTreeIn l k o → IsPlace g (root_name k) k []
  root_lies k x found None e is = absurd (none_is_some _ x is found)
  root_lies k x found (Some t) e is = record {
    tree = t;
    found = e;
    there = (own_head l _ _ t is.tree).name ∙ node_called l _ _ is.found;
  }

  -- a node lies below the one above it
  below : (n up : EntryPart) (x : Node) → node_of l n ≡ Some x → parent x.kind ≡ Some up → Lies g up → Lies g n
  below n up x found e q =
      let m = maker l n x found in
      let s = spot are.filed order_of q.0 q.1 up q.2 in
      let once = (named_once are.house l are.replayed).splits_once up in
      let split = found_once _ l m.change m.among (made_by_split m.change n up x m.makes_it e) once in
      let v = parted_by l _ _ m.change s.node s.said.shown (ap (split_of l) (cc) ∙ split) in
      let w = part_lies l _ n _ v.parts x v.are m.makes_it in
      let led = node_at_further q.1 _ s.tree s.node s.at
      ∙ subst (λ u. node_at (w.0 ∷ []) u ≡ Some w.1) (sym v.is) (rw w.2) in (
        q.0,
        q.1 ++ w.0 ∷ [],
        record {
          tree = s.tree;
          found = s.found;
          there = at_there _ _ w.1 led w.3;
        },
      )

  -- each node that a change makes lies in a tree
  lies_by : (n : EntryPart) (x : Node) → node_of l n ≡ Some x
      → ((m : EntryPart) (y : Node) → node_of l m ≡ Some y → m.entry < n.entry → Lies g m) → (o : Option EntryPart)
      → parent x.kind ≡ o → Lies g n
  lies_by n x found later None top =
      let m = maker l n x found in
      let root = root_made n _ _ _ x m.makes_it top in (
        m.change.number,
        [],
        rw root at (root_lies _ x (ap (node_of l) root ∙ found) _ refl (are.filed.trees _)),
      )
  lies_by n x found later (Some up) e =
      let y = order_of.sound.parents.there n up x found e in
      below n up x found e (later up y.0 y.1 (order_of.sound.falls.lower n up x y.0 found e y.1))

  lies : (f : ℕ) (n : EntryPart) (x : Node) → node_of l n ≡ Some x → n.entry < f → Lies g n
  lies zero n x found low = absurd (omega arith)
  lies (suc f) n x found low = lies_by n x found (λ m y there less. lies f m y there (omega arith)) (parent x.kind) refl

  -- so no tree has a node that no change makes
  pub found_none : (n : EntryPart) → ((trade : ℕ) (p : List ℕ) → IsPlace g n trade p → ⊥) → node_of l n ≡ None
  found_none n never = no_some _ (λ x e. let q = lies (suc n.entry) n x e (omega arith) in never q.0 q.1 q.2)

-- the node that was looked up at a place is found as the changes say
pub found_spot : {l : List Record} {g : Grove} → AreTreesOf l g → (n : EntryPart) (trade : ℕ) (p : List ℕ) (u : Rose)
    (f : Found) (o : Option (ℕ × ℕ)) → IsPlace g n trade p → HasTree g trade (λ t. node_at p t ≡ Some u)
    → f.head ≡ head_of u → length p ≡ f.depth → f.trade ≡ trade → o ≡ split_of_node u
    → f.split ≡ option_map (λ (q : ℕ × ℕ). q.0) o → IsFoundIn l n (Some f)
found_spot {l} {g} are n trade p u f o place at here deep its parts split =
    let s = spot are.filed (order_of are) _ p n place in
    let same : s.node ≡ u = same_Some s.node u (cc (from_tree s (λ t. node_at p t ≡ Some u) at)) in
    let head : head_of s.node ≡ f.head = cc in
    let is =
    rw head at (its_head s) in (
      s.said.node,
      cc,
      record {
        node = cc;
        lots = is.lots;
        place = cc;
        state = is.state;
        deep = cc;
        rooted = cc;
        split = cc (split, parts, same, (told_at l trade s.tree s.shown p s.node s.at).split, s.said.named);
      },
    )

-- ---- what is asked of what was found

module _ {l : List Record} {x : Node} {f : Found} (is : IsFoundAs l x f) where
  -- where the node above it stands
  pub above_as : (y : Node) (b : Found) (m : EntryPart) → IsFoundAs l y b → y.name ≡ m → parent x.kind ≡ Some m
      → (w : Option Deal)
      → w ≡ option_and_then (λ (r : Record). deal_in r.command) (find (λ (r : Record). r.number == f.trade) l)
      → held_at (Some b.head.place) w f.head.lots ≡ held_above l x
  above_as y b m over called up w e =
      let of_root : EntryPart → Option Deal =
      λ root. option_and_then (λ (r : Record). deal_in r.command) (find (λ (r : Record). r.number == root.entry) l) in
      let place : option_and_then (place_of l) (parent x.kind) ≡ Some b.head.place = cc in
      cc (e, ap (option_and_then of_root) (sym is.rooted), place, is.lots)

-- the node that was found is the one that the changes make
pub found_node : {l : List Record} {n : EntryPart} {f : Found} → (q : IsFoundIn l n (Some f)) → node_of l n ≡ Some q.0
found_node {l} q = cc
