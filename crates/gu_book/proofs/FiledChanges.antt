-- What each change makes of the trees and of the places.
use Rattle.gu_book.proofs
use Rattle.gu_depend.proofs.Vocabulary
use Rattle.gu_tree.specs
use proofs.ByNumber.{fresh, not_yet}
use proofs.Filed.{apart, changed, more_beside, names_apart, place_of_own, root_name, rooted, Spot}
use proofs.{Orders.{in_order, InOrder, unnamed}, Refused.next_legal, Sound.rises_at}
use proofs.Vocabulary.{and_parts, ap, arith, Bool, bytes_eq, bytes_eq-Decides, Command, decides, Decides-eqb}
use proofs.Vocabulary.{depth_of, EntryPart, false, Grove, head_of, House, is_none, is_some, IsGroveOf, IsNext}
use proofs.Vocabulary.{IsTrue, knows_account, leb-true, length, List, name_same, named_node, named_place, Node, node_of}
use proofs.Vocabulary.{None, none_is_some, not, Option, option_map, Part, place_in, Record, refl, Rose, same_Some}
use proofs.Vocabulary.{Some, Split, sum_by, sym, true, unwrap_or, [], ℕ, ◌&&◌, ◌++◌, ◌<◌, ◌||◌, ◌∙◌, ◌∷◌, ◌≡◌, ◌≢◌, ◌≤◌}
use proofs.Within.{parts_pass}
use Rattle.gu_base.{proofs.Passing.{part_passes, split_passes}, specs.declared.state.State.TheVariants.Refused}
use Rattle.gu_tree.proofs.{Along.own_head, Parts.{at_fact, at_there}, ShowsChanges.decided_state}
use Rattle.std.proofs.lemmas.{Bool.ltb-true, List.{Elements.Contains-push, Sums.list_all-from_AllPass}}
use specs.Changes.{CanSplit, claim_node, give_back_node, IsOffered, own_parts_have_accounts, split_node}
use specs.{Grove.{ChangesTree, HasTree, Places}, Paths.{edit_at, HasAt}, Rose.{leaf, lots_of, parted}, Shown.GivesBack}
use specs.Shown.{IsClaimOf, IsGivingBackOf, IsHeadOf, IsNodeOf, IsSplitOf, IsTradeOf, IsTreeOf, IsUnnamed, ShowsMore}
use Vocabulary.{at_node_none}
use Vocabulary.{Cancelled, Claim, claim_passes, decides_well, decision_of, Given, is_given, is_taker, Kind, Offered}
use Vocabulary.{owns, Place, place_of, refusal_parts, row, split_of, SplitHolds, State, state_after, state_of, taker_of}

-- ---- of kinds and states

-- what is given is in the state in which its decision left it
pub given_state : (k : Kind) (d : Option Record) → is_given k ≡ true
    → state_of k d ≡ unwrap_or (option_map (λ (r : Record). state_after r.command) d) Offered
given_state (Given _ _ _) None h = refl
given_state (Given _ _ _) (Some r) h = refl
given_state _ d h = absurd (cc)

free_state : (k : Kind) (d : Option Record) → not (is_given k && is_none d) ≡ true → state_of k d ≢ Offered
free_state (Given _ _ _) None h = absurd (cc)
free_state (Given _ _ _) (Some r) h = decided_state _
free_state _ d h = λ e. cc

taker_named : (by : List ℕ) (k : Kind) → is_taker by k ≡ true → taker_of k ≡ Some by
taker_named by (Given _ giver taker) h = cc ((bytes_eq-Decides taker by).0 h)
taker_named by _ h = absurd (cc)

-- what gives a part back decides it
pub back_names : (n : EntryPart) (state : State) (c : Command) → GivesBack n state c
    → (named_node c ≡ Some n) × (decides n c ≡ true)
back_names n Refused c e = (cc, cc (name_same n))
back_names n Cancelled c e = (cc, cc (name_same n))
back_names n _ c e = absurd e

-- ---- the node that the change names

-- the node gave way to another in the tree, and the change has it as its place
pub record IsDone (g : Grove) (trade : ℕ) (p : List ℕ) (r : Record) (h : Grove) (f : Rose → Rose) : Type 0 where
  pub tree : HasTree g trade (λ u. ChangesTree g h trade (edit_at f p u))
  pub place : HasTree g trade (HasAt p (λ v. Places g h r.number (head_of v).name))

module _ {l : List Record} {g : Grove} {trade : ℕ} {p : List ℕ} {n : EntryPart} (s : Spot l g trade p n) where
  -- what the tree keeps of the node
  pub its_head : IsHeadOf l s.said.above s.said.node (head_of s.node)
  its_head = own_head l _ _ _ s.said.shown

  pub its_node : (x : Node) → node_of l n ≡ Some x → x ≡ s.said.node
  its_node x e = same_Some x _ (cc (s.called, s.said.found))

  pub from_tree : (P : Rose → Type 0) → HasTree g trade P → P s.tree
  from_tree P has = at_fact P _ _ s.found has

  pub has_at : (P : Rose → Type 0) → P s.node → HasAt p P s.tree
  has_at P is = at_there P _ _ s.at is

  pub is_at : (P : Rose → Type 0) → P s.node → HasTree g trade (HasAt p P)
  is_at P is = at_there _ _ _ s.found (has_at P is)

  -- what a clause says of the node at the path is said of this one
  pub said_at : (P : Rose → Type 0) → HasTree g trade (HasAt p P) → P s.node
  said_at P has = at_fact P _ _ s.at (from_tree _ has)

-- ---- splits

-- a node without a Split is a leaf of the tree
can_split : (l : List Record) (above : Option Place) (x : Node) (v : Rose) (ps : List Part) → IsNodeOf l above x v
    → split_of l x.name ≡ None → sum_by (λ p. p.lots) ps ≡ lots_of v → (head_of v).state ≢ Offered → CanSplit ps v
can_split l above x (leaf h) ps shown none sum free = (sum, free)
can_split l above x (parted h n ts) ps shown none sum free = absurd (none_is_some _ _ none shown.1.1)

-- who stands at a node owns it
pub owns_at : (l : List Record) (by : List ℕ) (n : EntryPart) (p : Place) → place_of l n ≡ Some p
    → owns l by n ≡ bytes_eq p.firm by
owns_at l by n p e = cc

account_named : (t : House) (by : List ℕ) (o : Option (List ℕ)) (b : Bool)
    → (not b || unwrap_or (option_map (knows_account t by) o) false) ≡ true → (is_some o || not b) ≡ true
account_named t by (Some account) b h = refl
account_named t by None true h = cc
account_named t by None false h = refl

-- ---- the change that may follow

module _ {t : House} {l : List Record} {r : Record} {g : Grove} (next : IsNext t l r g) where
  pub order : InOrder l
  order = in_order t l next.replayed (rises_at 1 l r [] next.rises).rises

  unnamed_yet : IsUnnamed l r.number
  unnamed_yet = unnamed t l r.number next.replayed (not_yet l r (next_legal next).once)

  own_place : place_in (l ++ r ∷ []) r.number ≡ named_place r.number r.command
  own_place = place_of_own _ r (next_legal next).once (Contains-push l r)

  row_passes : (c : Command) → r.command ≡ c → row t l r.firm c ≡ None
  row_passes c e = rw e at (refusal_parts t l r.firm r.command next.lawful).1

  module _ {trade : ℕ} {p : List ℕ} {n : EntryPart} (s : Spot l g trade p n) where
    -- the edited tree shows the change behind each list that the tree shows and of which a clause holds
    abbrev ShowsEdited : (Rose → Rose) → (List Record → Record → Rose → Type 0) → Type 0
    ShowsEdited f P = HasTree g trade (λ u. ShowsMore (λ k q. P k q u) u (edit_at f p u))

    -- so it does behind this one
    edited : named_node r.command ≡ Some n → (h : Grove) (f : Rose → Rose) → IsDone g trade p r h f
        → (P : List Record → Record → Rose → Type 0) → P l r s.tree → ShowsEdited f P → IsGroveOf (l ++ r ∷ []) h
    edited is h f done P holds shows =
        changed (more_beside l r) next.filed
        (rw s.called at (said_at s (λ v. Places g h r.number (head_of v).name) done.place))
        (own_place ∙ (names_apart _ _ n is).1) order s is _ (from_tree s _ done.tree)
        (from_tree s (λ u. ShowsMore (λ k q. P k q u) u (edit_at f p u)) shows l trade r holds s.shown)

    -- ---- decisions

    -- the part that it decides is offered
    pub may_decide : decides n r.command ≡ true → HasTree g trade (HasAt p IsOffered)
    may_decide is =
        let w = decides_well t l _ _ n (row_passes _ refl) is in
        let state = given_state _ (decision_of l s.said.node.name) (rw (its_node s w.node w.there) at w.given) in
        is_at s _ (cc ((its_head s).state, state, s.said.named, s.called, w.undecided))

    module _ (account : List ℕ) (e : r.command ≡ Claim n account) where
      abbrev into : Place
      into = record { firm = r.firm; account = account }

      pub claimed : (h : Grove) → IsDone g trade p r h (claim_node r.number into)
          → ShowsEdited (claim_node r.number into) (λ k q. HasAt p (λ v. IsClaimOf (head_of v) r.number into q))
          → IsGroveOf (l ++ r ∷ []) h
      claimed h done shows =
          let there = at_node_none _ _ (row_passes _ e) in
          let taker = (claim_passes t l r.firm account there.0 there.1.1).0.taker in
          edited (cc e) h _ done
          _
          (has_at s (λ v. IsClaimOf (head_of v) r.number into r) (record {
            number = refl;
            taker = (its_head s).taker
                ∙ taker_named r.firm s.said.node.kind
                (rw (its_node s there.0 there.1.0) at taker);
            command = cc (e, s.called);
          })) shows

    pub given_back : (state : State) → GivesBack n state r.command → (h : Grove)
        → IsDone g trade p r h (give_back_node r.number state)
        → ShowsEdited (give_back_node r.number state)
        (λ k q. HasAt p (λ v. IsGivingBackOf (head_of v) r.number state q))
        → IsGroveOf (l ++ r ∷ []) h
    given_back state e h done shows =
        edited (back_names n _ _ e).0 h _ done _ (has_at s _ (record { number = refl; command = rw s.called e })) shows

    -- ---- a Split

    module _ (ps : List Part) (e : r.command ≡ Split n ps) where
      -- the lines of the row, of the node that the tree shows
      passes : SplitHolds t l r.firm ps s.said.node × (split_of l s.said.node.name ≡ None)
      passes =
          let there = at_node_none _ _ (row_passes _ e) in
          rw (its_node s there.0 there.1.0) at (split_passes t l r.firm ps there.0 there.1.1)

      its_owner : (head_of s.node).place.firm ≡ r.firm
      its_owner =
          (bytes_eq-Decides _ _).0
          (cc (
            owns_at l r.firm s.said.node.name (head_of _).place (ap (place_of l) s.said.named ∙ s.said.placed),
            passes.0.owned,
          ))

      pub may_split : HasTree g trade (HasAt p (CanSplit ps))
      may_split =
          is_at s _
          (can_split l _ _ _ ps s.said.shown passes.1
          ((Decides-eqb (sum_by (λ p. p.lots) ps) s.said.node.lots).0 passes.0.sums ∙ sym (its_head s).lots)
          (rw ((its_head s).state) (free_state _ _ passes.0.free)))

      pub has_accounts : HasTree g trade (HasAt p (λ v. IsTrue (own_parts_have_accounts ps (head_of v))))
      has_accounts =
          let named : Part → Bool = λ p. is_some p.account || not _ in
          is_at s _
          (list_all-from_AllPass named ps
          (parts_pass t r.firm (λ p. named p ≡ true)
          (λ p e. cc (its_owner, account_named t r.firm p.account _ (part_passes t r.firm p e).1))
          ps passes.0.parts))

      pub part_count : (1 ≤ length ps) × (length ps ≤ 100)
      part_count = let c = and_parts _ _ passes.0.count in (leb-true 1 _ c.0, leb-true _ 100 c.1)

      pub not_deep : length p < 64
      not_deep =
          let deep : depth_of l s.said.node.name ≡ length p = cc (s.said.named, s.said.deep) in
          omega (arith, ltb-true _ 64 passes.0.shallow)

      pub split_filed : (h : Grove) → IsDone g trade p r h (split_node r.number ps)
          → ShowsEdited (split_node r.number ps)
          (λ k q u. HasAt p (λ v. IsSplitOf (head_of v) r.number ps q) u × IsUnnamed k r.number)
          → IsGroveOf (l ++ r ∷ []) h
      split_filed h done shows =
          edited (cc e) h _ done
          _ (
            has_at s _ (record { number = refl; firm = sym its_owner; command = cc (e, s.called) }),
            unnamed_yet,
          ) shows

  -- ---- a Trade, and an Agree or a Raise

  -- what the new tree shows is asked of it for this list
  pub trade_filed : (place : Place) (lots : ℕ) → IsTradeOf r.number place lots r → (h : Grove) (new : Rose)
      → ((k : List Record) (q : Record) → IsTradeOf r.number place lots q → IsUnnamed k r.number
      → node_of k (root_name r.number) ≡ None → IsTreeOf (k ++ q ∷ []) r.number new)
      → ChangesTree g h r.number new → Places g h r.number (root_name r.number) → IsGroveOf (l ++ r ∷ []) h
  trade_filed place lots is h new shows changes places =
      rooted (more_beside l r) next.filed places (cc (own_place, is.command)) (λ n. cc is.command) _ changes
      (shows l r is unnamed_yet (not_yet l r (next_legal next).once _ refl))

  -- what has no place in the trees leaves them as they are
  pub left_alone : named_place r.number r.command ≡ None → IsGroveOf (l ++ r ∷ []) g
  left_alone placeless =
      apart (more_beside l r) next.filed placeless
      (cc (own_place, placeless, next.filed.places _, fresh l r (next_legal next).once))
