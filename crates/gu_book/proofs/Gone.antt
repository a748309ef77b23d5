-- What the trees say of a change on which nothing stands, and what is left when it is taken back at its node.
use Rattle.gu_book.proofs
use Rattle.gu_tree.specs
use proofs.Filed.{IsParted, IsWhole, makes_root, names_apart, parted_by, root_name, Spot, spot, whole_by}
use proofs.FiledChanges.{from_tree, given_state, has_at, is_at, its_head, its_node, said_at}
use proofs.{FiledLess.{order, own_place, taken_back, uprooted}, Holdings.unsplit, Sound.made_found}
use proofs.Undoing.{bare, before, counted, finds, grown, once, only_decision, only_split, others}
use proofs.Vocabulary.{All, All-head, All-tail, All-weaker, ap, Command, decides}
use proofs.Vocabulary.{DecidesNode, EntryPart, false, found_once, Grove, Head, head_of, House, inl, inr, is_trade}
use proofs.Vocabulary.{IsFree, IsGroveOf, IsPlace, IsSomeAnd, IsTreeIn, IsTrue, List, made, made_number, name_same}
use proofs.Vocabulary.{named_node, named_once, names, Node, node_of, node_of_maker, None, none_is_some, Option}
use proofs.Vocabulary.{option_map, Record, refl, Rose, Some, Split, Trade, true, without, [], ℕ, ◌∙◌, ◌∷◌, ◌≡◌, ◌⊎◌}
use Rattle.gu_depend.proofs.{LastMoves.split_kept, Vocabulary.{Cancel, Claim, decides_well}}
use Rattle.gu_depend.proofs.Vocabulary.{decision_of, made_of, node_called, Place, Refuse, split_of, splits, state_after}
use Rattle.gu_tree.proofs.Parts.{at_fact, some_and}
use specs.Changes.{are_undecided_leaves, can_unsplit, is_given_back, is_undecided_leaf, offer_again_node, offer_node}
use specs.{Changes.unsplit_node, Grove.{ChangesTree, HasTree, IsSapling, place_of, Takes, TakesTree}}
use specs.{Paths.{above, edit_at, HasAt, node_at}, Rose.{leaf, no_parts, part_then, parted, Roses, split_of_node}}
use specs.Shown.{ArePartsOf, IsNodeOf, IsOnlyDecision, IsOnlySplit, ShowsLess, SplitsNode}

-- ---- what a command names

pub split_names : (n : EntryPart) (c : Command) → SplitsNode n c → (named_node c ≡ Some n) × (splits n c ≡ true)
split_names n (Split m ps) e = (cc, cc (name_same n))
split_names n _ e = absurd e

-- a decision names its node, and splits none
pub decision_names : (n : EntryPart) (c : Command) → DecidesNode n c
    → (named_node c ≡ Some n) × (decides n c ≡ true) × (splits n c ≡ false)
decision_names n (Claim m account) e = (cc, cc (name_same n), refl)
decision_names n (Refuse m) e = (cc, cc (name_same n), refl)
decision_names n (Cancel m) e = (cc, cc (name_same n), refl)
decision_names n _ e = absurd e

-- a Refuse or a Cancel gives the part back that it names
pub turned_down : {c : Command} → ((n : EntryPart) × c ≡ Refuse n) ⊎ ((n : EntryPart) × c ≡ Cancel n)
    → (n : EntryPart) × DecidesNode n c × (is_given_back (state_after c) ≡ true)
turned_down (inl r) = (r.0, rw r.1 refl, cc)
turned_down (inr r) = (r.0, rw r.1 refl, cc)

-- ---- parts on which nothing stands

abbrev IsBare : List Record → Node → Type 0
IsBare l x = (split_of l x.name ≡ None) × (decision_of l x.name ≡ None)

bare_part : (l : List Record) (above : Option Place) (x : Node) (v : Rose) → IsNodeOf l above x v → IsBare l x
    → is_undecided_leaf v ≡ true
bare_part l above x (leaf h) is bare = cc
bare_part l above x (parted h n ts) is bare = absurd (none_is_some _ _ bare.0 is.1.1)

bare_parts : (l : List Record) (above : Option Place) (xs : List Node) (ts : Roses) → ArePartsOf l above xs ts
    → All (IsBare l) xs → are_undecided_leaves ts ≡ true
bare_parts l above [] no_parts is bare = refl
bare_parts l above (x ∷ xs) (part_then v ts) is bare =
    cc (
      bare_part l above x v is.0 (All-head (IsBare l) x xs bare),
      bare_parts l above xs ts is.1 (All-tail (IsBare l) x xs bare),
    )
bare_parts l above _ _ is bare = absurd is

module _ {t : House} {l : List Record} {r : Record} {g : Grove} (u : IsFree t l r g) where
  pub its_spot : (trade : ℕ) (p : List ℕ) (n : EntryPart) → named_node r.command ≡ Some n
      → IsSomeAnd (place_of g r.number) (λ m. IsPlace g m trade p) → Spot l g trade p n
  its_spot trade p n is at =
      spot u.filed (order u) trade p n (rw (own_place u ∙ (names_apart r.number r.command n is).1) at at)

  -- ---- a Trade

  module _ (trades : is_trade r.command ≡ true) where
    root_there : (x : Node) × (node_of l (root_name r.number) ≡ Some x)
    root_there =
        let x = makes_root _ _ _ trades in
        (x.0, node_of_maker l r _ x.0 (once u) u.among x.1)

    pub sapling_there : HasTree g r.number IsSapling
    sapling_there = sapling _ (u.filed.trees r.number)
      where
        sapling : (o : Option Rose) → IsTreeIn l r.number o → IsSomeAnd o IsSapling
        sapling None is = none_is_some _ _ is root_there.1
        sapling (Some (leaf h)) is = cc (node_called l _ is.root is.found)
        sapling (Some (parted h n ts)) is =
            let called = node_called l _ is.root is.found in
            none_is_some _ _ (cc ((bare u (root_name r.number) refl).0)) is.tree.1.1

    pub root_gone : (h : Grove) → TakesTree g h r.number → Takes g h r.number → IsGroveOf (without l r.number) h
    root_gone = uprooted u (unnamed _ trades)
      where
        unnamed : (c : Command) → is_trade c ≡ true → (n : EntryPart) → names n c ≡ false
        unnamed (Trade _ _ _ _ _) is n = refl
        unnamed _ is n = absurd (cc)

  -- ---- a Split

  module _ {trade : ℕ} {p : List ℕ} {n : EntryPart} (s : Spot l g trade p n) (is : SplitsNode n r.command) where
    its_parts : IsParted l r s.node
    its_parts =
        parted_by l _ _ r _ s.said.shown
        (ap (split_of l) (s.said.named ∙ s.called)
        ∙ found_once (λ d. splits n d.command) l r u.among (split_names n _ is).1
        ((named_once t l u.replayed).splits_once n))

    pub may_unsplit : HasTree g trade (HasAt p (λ v. IsTrue (can_unsplit v)))
    may_unsplit =
        is_at s _
        (cc (
          its_parts.is,
          bare_parts l (Some its_parts.head.place) (made r) its_parts.parts its_parts.are
              (All-weaker (λ (x : Node). made_of r x.name ≡ Some x) (IsBare l)
              (λ x e. bare u x.name (made_number r x.name x e)) (made r) (made_found r)),
        ))

    pub unsplit_gone : (h : Grove) → HasTree g trade (λ v. ChangesTree g h trade (edit_at unsplit_node p v))
        → HasTree g trade (HasAt p (λ w. IsSomeAnd (split_of_node w) (λ q. Takes g h q.0)))
        → HasTree g trade
        (λ v. ShowsLess (λ l k. HasAt p (λ w. IsOnlySplit l k (head_of w).name) v) v (edit_at unsplit_node p v))
        → IsGroveOf (without l r.number) h
    unsplit_gone h tree place shows =
        taken_back u s (split_names n _ is).0 h _ (from_tree s _ tree)
        (rw (ap split_of_node its_parts.is) at (said_at s (λ w. IsSomeAnd (split_of_node w) (λ q. Takes g h q.0))
        place))
        (from_tree s
        _ shows l
        trade r.number
        (has_at s (λ w. IsOnlySplit l r.number (head_of w).name)
        (rw s.called (only_split u n is (split_names n _ is).1)))
        s.shown)

  -- ---- a decision

  module _ {trade : ℕ} {p : List ℕ} {n : EntryPart} (s : Spot l g trade p n) (is : DecidesNode n r.command) where
    abbrev its_names : (named_node r.command ≡ Some n) × (decides n r.command ≡ true) × (splits n r.command ≡ false)
    its_names = decision_names n r.command is

    called : s.said.node.name ≡ n
    called = s.said.named ∙ s.called

    its_decision : decision_of l n ≡ Some r
    its_decision = found_once _ l r u.among its_names.1 ((named_once t l u.replayed).decisions_once n)

    whole : IsWhole s.node
    whole =
        whole_by l _ _ _ s.said.shown
        (cc (
          called,
          (finds u).splits_same n,
          split_kept (before u) n its_names.2,
          unsplit (counted u) n its_names.1
              (decides_well t (others u) r.firm r.command n (before u).accepted its_names.1).undecided,
        ))

    -- the state in which it left the part
    decided_state : (head_of s.node).state ≡ state_after r.command
    decided_state =
        let w = decides_well t (others u) r.firm r.command n (before u).accepted its_names.1 in
        cc (
          (its_head s).state,
          called,
          its_decision,
          given_state _ (Some r)
              (rw (its_node s w.node ((grown u).within.nodes n w.node w.there)) at w.given),
        )

    pub leaf_there : (P : Rose → Type 0) → ((h : Head) → h.state ≡ state_after r.command → P (leaf h))
        → HasTree g trade (HasAt p P)
    leaf_there P has = is_at s P (rw whole.is (has whole.head (cc (whole.is, decided_state))))

    -- the place of the decision goes, and the edited tree shows the others of each list in which no other decides it
    abbrev TakesDecision : Grove → Type 0
    TakesDecision h = HasTree g trade (HasAt p (λ w. IsSomeAnd (head_of w).decision (Takes g h)))

    abbrev ShowsUndecided : (Rose → Rose) → Rose → Type 0
    ShowsUndecided f v = ShowsLess (λ l k. HasAt p (λ w. IsOnlyDecision l k (head_of w).name) v) v (edit_at f p v)

    -- so the part is offered again
    offered_gone : (h : Grove) (f : Rose → Rose) → ChangesTree g h trade (edit_at f p s.tree) → TakesDecision h
        → ShowsUndecided f s.tree → IsGroveOf (without l r.number) h
    offered_gone h f tree place shows =
        taken_back u s its_names.0 h _ tree
        (rw ((its_head s).decision ∙ ap (option_map (λ (d : Record). d.number))
        (ap (decision_of l) called ∙ its_decision)) at (said_at s _ place))
        (shows l trade r.number
        (has_at s (λ w. IsOnlyDecision l r.number (head_of w).name)
        (rw s.called (only_decision u n is its_names.1)))
        s.shown)

    -- ---- a Claim

    pub claim_gone : (h : Grove)
        → HasTree g trade
        (λ v. HasAt (above p) (λ w. ChangesTree g h trade (edit_at (offer_node (head_of w).place) p v)) v)
        → TakesDecision h
        → HasTree g trade (λ v. HasAt (above p) (λ w. ShowsUndecided (offer_node (head_of w).place) v) v)
        → IsGroveOf (without l r.number) h
    claim_gone h tree place shows =
        let w = some_and _ _ (from_tree s _ tree) in
        offered_gone h _ w.2 place
        (at_fact (λ w. ShowsUndecided (offer_node (head_of w).place) s.tree) (node_at (above p) s.tree) w.0 w.1
        (from_tree s _ shows))

    -- ---- a Refuse or a Cancel

    pub turned_gone : (h : Grove) → HasTree g trade (λ v. ChangesTree g h trade (edit_at offer_again_node p v))
        → TakesDecision h → HasTree g trade (ShowsUndecided offer_again_node) → IsGroveOf (without l r.number) h
    turned_gone h tree place shows = offered_gone h _ (from_tree s _ tree) place (from_tree s _ shows)
