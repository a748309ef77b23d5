-- What a new tree, and one that is taken away, do to the trees.
use Rattle.gu_tree.proofs
use Rattle.gu_tree.specs
use proofs.Groves.{FilesAlike, leads_kept, led_kept}
use proofs.GroveSwaps.{AreNoted, bare_noted, bare_on, changed_at, clearing, filing, IsNamed, IsOneOff, leaf_only}
use proofs.{GroveSwaps.{low_new, newest_free, noted_kept, one_place, slots_alike, tree_kept, tree_same}, Parts.some_and}
use proofs.Vocabulary.{ap, arith, cases_eq, EntryPart, Head, head_of, inl, inr, is_none, is_open, IsFiled, IsHeld}
use proofs.Vocabulary.{IsSomeAnd, IsTakenOut, last_of, leaf, length, length-append, length-set, node_at, None, Option}
use proofs.Vocabulary.{parted, refl, Rose, set, Slot, Some, subst, sym, [], ℕ, ◌++◌, ◌+◌, ◌<◌, ◌∙◌, ◌∷◌, ◌≡◌, ◌≢◌, ◌≤◌}
use Rattle.std.proofs.{lemmas.Option.same_Some, Math.{ListN.get_or-append, Seq.get_or-append_seam}}
use specs.declared.slot.Slot.TheVariants.{Empty, Node, Root}
use specs.{Filing.{Leads, name_in, slot_of, turned}, Grove.ChangesTree}
use specs.Grove.{Grove, HasTree, IsGrove, IsLed, IsSapling, place_of, Places, Takes, TakesTree, tree_in, tree_of}

-- ---- a tree comes or goes with the slot of its trade

module _ {g new : Grove} {trade : ℕ} {x y : Slot} (is : IsGrove g) (one : IsOneOff g new trade x y)
    (was : (n : EntryPart) → x ≢ Node n) (now : (n : EntryPart) → y ≢ Node n)
    (stays : (u : ℕ) → u ≢ trade → tree_of new u ≡ tree_of g u) where
  alike : (m : EntryPart) → FilesAlike g.slots new.slots m
  alike m = slots_alike one (Node m) (was m) (now m)

  old_root : (u j : ℕ) → u ≢ trade → slot_of new.slots u ≡ Root j → slot_of g.slots u ≡ Root j
  old_root u j other at = sym (one.same u other) ∙ at

  -- the slot leads to no other's tree, no other place was in the tree that goes, and the one that comes is sound
  regrown : length g.trees ≤ length new.trees → length new.trees ≤ last_of new.slots
      → ((j : ℕ) → y ≡ Root j → (j < length new.trees) × ((u : ℕ) → slot_of g.slots u ≢ Root j))
      → ((n : EntryPart) → place_of new trade ≡ Some n → IsLed new n)
      → ((k : ℕ) (n : EntryPart) → k ≢ trade → place_of g k ≡ Some n → (l : IsLed g n) → l.trade ≢ trade)
      → ((tree : Rose) → tree_of new trade ≡ Some tree → AreNoted new.slots trade tree) → IsGrove new
  regrown longer few own led_here led_there noted_here = record {
    low = low_new one is;
    few = few;
    rooted = λ u j e. elim (cases_eq u trade) [
      | inl here ↦ (own j (cc one.after)).0
      | inr other ↦ omega (arith, is.rooted u j (old_root u j other e), longer)
    ];
    apart = λ u w j a b. elim (cases_eq u trade) [
      | inl p ↦ elim (cases_eq w trade) [
        | inl q ↦ cc
        | inr q ↦ absurd ((own j (cc one.after)).1 w (old_root w j q b))
      ]
      | inr p ↦ elim (cases_eq w trade) [
        | inl q ↦ absurd ((own j (cc one.after)).1 u (old_root u j p a))
        | inr q ↦ is.apart u w j (old_root u j p a) (old_root w j q b)
      ]
    ];
    falls = λ k n e. is.falls k n ((alike n k).0 e);
    led = λ k n placed. elim (cases_eq k trade) [
      | inl here ↦ led_here n (rw here at placed)
      | inr other ↦ (let at : place_of g k ≡ Some n = cc (one.same k other) in
          let l = is.led k n at in
          led_kept n l (leads_kept g.slots new.slots alike n l.trade l.up l.leads)
          (stays l.trade (led_there k n other at l)))
    ];
    made = λ u tree q w has at. (noted_new u tree has q w at).0;
    noted = λ u tree q w has at. (noted_new u tree has q w at).1;
  }
    where
      noted_new : (u : ℕ) (tree : Rose) → tree_of new u ≡ Some tree → AreNoted new.slots u tree
      noted_new u tree has q w at = elim (cases_eq u trade) [
        | inl here ↦ rw here (noted_here tree (rw here at has) q w at)
        | inr other ↦ (let found : tree_of g u ≡ Some tree = cc (stays u other) in (
          leads_kept g.slots new.slots alike (head_of w).name u (turned q) (is.made u tree q w found at),
          noted_kept g.slots new.slots w (alike (head_of w).name) (is.noted u tree q w found at),
        ))
      ]

-- ---- a new tree

-- what a call that plants a tree tells
pub record Plants (g new : Grove) (tree : Rose) : Type 0 where
  pub grove : IsGrove new
  pub changed : ChangesTree g new (head_of tree).name.entry tree
  pub place : Places g new (head_of tree).name.entry (head_of tree).name

module _ {g : Grove} (new : Grove) (h : Head) (is : IsGrove g) (part : h.name.part ≡ 0) (held : IsHeld h)
    (above : last_of g.slots < h.name.entry) (trees : new.trees ≡ g.trees ++ Some (leaf h) ∷ [])
    (slots : IsFiled g.slots new.slots h.name.entry (Root (length g.trees))) where
  abbrev entry : ℕ
  entry = h.name.entry

  root : h.name ≡ record { entry = entry; part = 0 }
  root = λ i. record { entry = entry; part = part i }

  one : IsOneOff g new entry Empty (Root (length g.trees))
  one = filing above slots

  tree_here : tree_of new entry ≡ Some (leaf h)
  tree_here = rw (one.after, trees) (get_or-append_seam g.trees (Some (leaf h)) [] None)

  tree_there : (u : ℕ) → u ≢ entry → tree_of new u ≡ tree_of g u
  tree_there u other = cc (
    one.same u other,
    tree_kept new.trees g.trees (slot_of g.slots u) (λ j at.
        rw trees (get_or-append g.trees (Some (leaf h) ∷ []) None j (is.rooted u j at))),
  )

  planted : Plants g new (leaf h)
  planted =
      let longer : length new.trees ≡ length g.trees + 1 =
      omega (arith, ap length trees, length-append g.trees (Some (leaf h) ∷ [])) in
      record {
        grove = regrown is one (λ n e. cc) (λ n e. cc) tree_there (omega arith)
            (omega (arith, is.few, slots.last, above))
            (λ j e. let last : length g.trees ≡ j = cc in
            (omega arith, λ u at. absurd (omega (arith, is.rooted u j at))))
            (λ n placed. let same : h.name ≡ n = root ∙ cc one.after in subst (IsLed new) same (record {
              trade = entry;
              up = [];
              tree = leaf h;
              leads = (part, refl);
              short = omega arith;
              found = tree_here;
              there = refl;
            }))
            (λ k n other at l here. let none : None ≡ Some l.tree = cc one.before in cc)
            (λ tree has q w at.
            let same : tree ≡ leaf h = cc tree_here in
            let only = leaf_only (leaf h) w q tt (rw same at at) in
            rw (only.0, ← only.1) (
              (part, refl),
              bare_noted new.slots (leaf h) (ap is_none held.1) (ap is_open held.0)
                  (newest_free is above one h.name refl (λ has. cc)) (λ z. held.0),
            ));
        changed = changed_at entry (Some (leaf h)) (tree_of g) (tree_of new) tree_here tree_there;
        place = subst (Places g new entry) (sym root) (one_place one);
      }

-- a tree that is planted, as the code does it
pub planting : {g new : Grove} (tree : Rose) → IsGrove g → IsSapling tree → IsHeld (head_of tree)
    → last_of g.slots < (head_of tree).name.entry → new.trees ≡ g.trees ++ Some tree ∷ []
    → IsFiled g.slots new.slots (head_of tree).name.entry (Root (length g.trees)) → Plants g new tree
planting {new = new} (leaf h) is sapling held above trees slots = planted new h is sapling held above trees slots
planting (parted h n ts) is sapling held above trees slots = absurd sapling

-- ---- a tree is taken away

-- what a call that takes a tree away tells
pub record Fells (g new : Grove) (trade : ℕ) : Type 0 where
  pub grove : IsGrove new
  pub tree : TakesTree g new trade
  pub place : Takes g new trade

module _ {g : Grove} (new : Grove) (trade : ℕ) {i : ℕ} {h : Head} (is : IsGrove g)
    (slot : slot_of g.slots trade ≡ Root i) (tree : tree_of g trade ≡ Some (leaf h))
    (trees : new.trees ≡ set g.trees i None)
    (slots : IsTakenOut g.slots new.slots trade) where
  emptied : IsOneOff g new trade (Root i) Empty
  emptied = clearing slot slots

  tree_gone : tree_of new trade ≡ None
  tree_gone = ap (tree_in new.trees) emptied.after

  tree_stands : (u : ℕ) → u ≢ trade → tree_of new u ≡ tree_of g u
  tree_stands u other =
      cc (emptied.same u other, tree_same is new None slot trees u other)

  abbrev root_name : EntryPart
  root_name = record { entry = trade; part = 0 }

  its_root : Leads g.slots h.name trade []
  its_root = is.made trade (leaf h) [] (leaf h) tree refl

  root_named : h.name ≡ root_name
  root_named = λ k. record { entry = its_root.1 k; part = its_root.0 k }

  -- only its Trade has the root as its place
  alone : (k : ℕ) (x : Slot) → slot_of g.slots k ≡ x → name_in k x ≡ Some root_name → k ≡ trade
  alone k Empty s at = absurd (cc)
  alone k (Root j) s at = ap (λ (n : EntryPart). n.entry) (same_Some (record { entry = k; part = 0 }) root_name at)
  alone k (Node n) s at =
      let noted = is.noted trade (leaf h) [] (leaf h) tree refl in
      absurd (bare_on (leaf h) k (ap is_none (noted.settled.root its_root.0).1) ((noted.filed k).0 (cc root_named)))

  led_other : (k : ℕ) (n : EntryPart) → k ≢ trade → place_of g k ≡ Some n → (l : IsLed g n) → l.trade ≢ trade
  led_other k n other at l here =
      let same : l.tree ≡ leaf h = cc in
      let w = some_and (IsNamed n) (node_at (turned l.up) l.tree) l.there in
      let only = leaf_only (leaf h) w.0 (turned l.up) tt (cc w.1) in
      let name : n ≡ root_name = cc root_named in
      other (alone k (slot_of g.slots k) refl (cc))

  felled : Fells g new trade
  felled =
      let long : length new.trees ≡ length g.trees = ap length trees ∙ length-set g.trees i None in
      record {
        grove = regrown is emptied (λ n e. cc) (λ n e. cc) tree_stands (omega arith)
            (omega (arith, is.few, slots.last)) (λ j e. absurd (cc)) (λ n placed. absurd (cc emptied.after))
            led_other (λ tree has. absurd (cc tree_gone));
        tree = changed_at trade None (tree_of g) (tree_of new) tree_gone tree_stands;
        place = one_place emptied;
      }

sapling_leaf : (o : Option Rose) → IsSomeAnd o IsSapling → (h : Head) × (o ≡ Some (leaf h))
sapling_leaf (Some (leaf h)) is = (h, refl)
sapling_leaf _ is = absurd is

-- a root without a Split that goes, as the code takes it away
pub felling : {g new : Grove} {trade i : ℕ} → IsGrove g → slot_of g.slots trade ≡ Root i → HasTree g trade IsSapling
    → new.trees ≡ set g.trees i None → IsTakenOut g.slots new.slots trade → Fells g new trade
felling {g} {new} {trade} is slot sapling trees slots =
    felled new trade is slot (sapling_leaf (tree_of g trade) sapling).1 trees slots
