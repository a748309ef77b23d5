-- A live change on which nothing stands can as well stand last: so the fees and positions without it are those with it,
-- less what it moved.
use Rattle.gu_depend.proofs.LastMoves as before_last
use Rattle.gu_book.proofs
use Rattle.gu_book.specs
use Rattle.gu_depend.proofs.Vocabulary
use proofs.{ByNumber.{change_left, its_own, not_yet}, Charging.is_charged, Dealing.uses_charged, HoldingRows.is_own_key}
use proofs.Holdings.{decision_kept, given_parent, IsCounted, unnamed_yet}
use proofs.Leaves.{rises_without, without_small, without_within}
use proofs.PartsAway.{moved, moved_few, parts_move, split_well, whole_well}
use proofs.Standings.{counts_on, moved_by, position_within, taken_part}
use proofs.Vocabulary.{accepted_there, added_by, All, All-cons}
use proofs.Vocabulary.{All-head, All-tail, AllWithinLimits, ap, AreFeesOf, ArePositionsOf, arith, Bool, charge_of}
use proofs.Vocabulary.{Command, cond, cons_option, counted_at, decides, DecidesNode, EntryPart, eqb-true, false, filter}
use proofs.Vocabulary.{filter_map, find, first, Grove, HaveMoved, HaveThere, held_at, Holding, holding_of, House}
use proofs.Vocabulary.{IfSome, is_key, IsFree, Key, Legal, length, List, lots_in, map, mul-le-mul_right, name_same}
use proofs.Vocabulary.{named_once, Node, node_of, None, none_is_some, number_once, NumbersOnce, Option, option_and_then}
use proofs.Vocabulary.{or-true, parent, Part, PositionRows, Record, refl, refusal_of_part, rises_distinct, same_side}
use proofs.Vocabulary.{same_Some, Side, Some, Split, suc, sum_by, sym, taken_at, taken_by, traded_at, true, without, []}
use proofs.{Vocabulary.{ℕ, ◌&&◌, ◌*◌, ◌++◌, ◌+◌, ◌==◌, ◌||◌, ◌∙◌, ◌∷◌, ◌≡◌, ◌≢◌, ◌≤◌}, Within.{All-each, node_within}}
use Rattle.gu_depend.proofs.{Deals.gives_alike, Finds.{alike_at, count_permuted}}
use Rattle.gu_depend.proofs.Grown.{above, at_name, Grown, line_of_grown, place_same}
use Rattle.gu_depend.proofs.LastMoves.{charge_kept, is_before, IsBefore, moves_its_own, root_found, split_kept}
use Rattle.gu_depend.proofs.{Replay.{same_finds, SameFinds}, StandsLast.replay_on, StandsUnder.{can_go, CanGo}}
use Rattle.{gu_depend.proofs.State.{charge_same, SameDeals}, gu_fees.specs.{Rows.FeeRows, Sums.AreSumsOf}}
use Rattle.gu_tree.{proofs.Shows.find_kept, specs.Shown.{IsOnlyDecision, IsOnlySplit, SplitsNode}}
use specs.Charging.{IsCharged, IsSmallCharge}
use specs.Holdings.{comes_from, goes_back, HasFewLots, HasRoomBack, SameLots, taken_before}
use Vocabulary.{Charge, charges, Claim, Deal, deal_in, decides_well, decision_of, false_from_ne_true}
use Vocabulary.{Given, highest_rate, is_given, Kind, most_lots, node_called, none_refused, or_parts, Place}
use Vocabulary.{place_of, place_of_kind, position_of, refusal_of, root_along, root_of, split_of, splits, splits_well}

-- ---- small charges

-- charges without some of them
kept_small : (h : Record → Option Charge) (p : Record → Bool) (l : List Record) → All IsSmallCharge (filter_map h l)
    → All IsSmallCharge (filter_map h (filter p l))
kept_small h p [] all = all
kept_small h p (d ∷ l) all = at _ (p d) refl (kept_small h p l) all
  where
    at : (o : Option Charge) (b : Bool) → h d ≡ o
        → (All IsSmallCharge (filter_map h l) → All IsSmallCharge (filter_map h (filter p l)))
        → All IsSmallCharge (cons_option o (filter_map h l))
        → All IsSmallCharge (filter_map h (cond b (d ∷ filter p l) (filter p l)))
    at None false e later all = later all
    at None true e later all = rw e (later all)
    at (Some c) false e later all = later (All-tail IsSmallCharge c _ all)
    at (Some c) true e later all =
        rw e (All-cons IsSmallCharge c _ (All-head IsSmallCharge c _ all) (later (All-tail IsSmallCharge c _ all)))

-- ---- the change last

module _ {t : House} {l : List Record} {r : Record} {g : Grove} (u : IsFree t l r g) where
  abbrev pub others : List Record
  others = without l r.number

  abbrev pub last : List Record
  last = others ++ r ∷ []

  pub once : NumbersOnce l
  once = number_once l (rises_distinct 1 l u.rises)

  pub list : Legal t l
  list = record { once = once; replayed = u.replayed }

  go : CanGo t l r
  go = can_go t l r list u.among u.free

  pub grown : Grown l others
  grown = go.grown

  last_list : Legal t last
  last_list = record {
    once = λ n. omega (arith, count_permuted (λ d. d.number == n) l _ go.permuted, once n);
    replayed = go.last;
  }

  pub finds : SameFinds l last
  finds = same_finds l last go.permuted once (named_once t l u.replayed)

  deals : SameDeals t l last
  deals = record { terms = go.same.terms; limits = go.same.limits; used = go.same.used }

  pub before : IsBefore t others r
  before = is_before t others r last_list

  -- no other makes its nodes
  pub unmade : (n : EntryPart) → n.entry ≡ r.number → node_of others n ≡ None
  unmade = not_yet others r last_list.once

  -- so nothing stands on such a node
  pub bare : (n : EntryPart) → n.entry ≡ r.number → (split_of l n ≡ None) × (decision_of l n ≡ None)
  bare n own =
      let un = false_from_ne_true _ (λ yes.
      let y = accepted_there t others r.firm r.command before.accepted n yes in
      none_is_some _ y.0 (unmade n own) y.1) in
      let p = or_parts _ _ un in (
        cc (
          finds.splits_same n,
          split_kept before n p.0,
          unnamed_yet others n _ (λ d is. ap (λ b. b || decides n d.command) is) grown.named (unmade n own),
        ),
        cc (
          finds.decisions n,
          find_kept _ others r p.1,
          unnamed_yet others n _ (λ d is. ap (λ b. splits n d.command || b) is ∙ or-true (splits n d.command))
              grown.named (unmade n own),
        ),
      )

  -- the others don't refuse it
  pub lawful : refusal_of t others r.firm r.command ≡ None
  lawful =
      (none_refused _ r.number None
      (cc (replay_on t [] others (r ∷ []) u.free, go.last))).0

  pub counted : IsCounted t others r
  counted = counts_on last_list (rises_without 1 r.number l u.rises)

  -- ---- fees

  -- what it costs can be read off either list
  pub own_charge : charge_of t l r.command ≡ charge_of t others r.command
  own_charge = sym (before_last.own_charge before ∙ charge_same t l last finds deals r.command)

  -- the sums are those of the other changes' charges and its own
  charges_with : (fees : FeeRows) → AreFeesOf t l fees
      → AreSumsOf fees (charges t others ++ cons_option (charge_of t others r.command) [])
  charges_with fees are =
      rw (← (moves_its_own t others r last_list).charged) (record {
        paid = λ firm. are.sums.paid firm ∙ sym (go.same.paid firm);
        received = λ firm. cc (are.sums.received firm, go.same.received firm);
        used = λ giver taker. cc (
          are.sums.used giver taker,
          uses_charged t l u.replayed giver taker,
          go.same.used giver taker,
          uses_charged t last go.last giver taker,
        );
      })

  -- and its own can be taken out of them
  pub charged_there : (fees : FeeRows) → AreFeesOf t l fees → (o : Option Charge) → o ≡ charge_of t others r.command
      → IfSome o (λ c. c.lots ≤ most_lots) → IfSome o (λ c. c.rate ≤ highest_rate) → IsCharged fees o
  charged_there fees are o is lots rate =
      is_charged _ (charges t others) o (rw is (charges_with fees are))
      lots rate

  pub fees_without : (fees new : FeeRows) → AreFeesOf t l fees → (o : Option Charge) → o ≡ charge_of t others r.command
      → ((cs : List Charge) → AreSumsOf fees (cs ++ cons_option o []) → AreSumsOf new cs) → AreFeesOf t others new
  fees_without fees new are o is less = record {
    sums = less _
        (rw is (charges_with fees are));
    small =
        let h : Record → Option Charge = λ d. charge_of t l d.command in
        -- and what another change costs
        let each = All-each (λ (d : Record). charge_of t others d.command ≡ h d) others
        (λ d there. charge_kept before d there ∙ charge_same t l last finds deals d.command) in
        rw (gives_alike _ h others each) (kept_small h _ l are.small);
  }

  -- ---- what it took

  abbrev of_root : List Record → EntryPart → Option Deal
  of_root m root = option_and_then (λ (d : Record). deal_in d.command) (find (λ (d : Record). d.number == root.entry) m)

  -- what is given and not decided stands where the node above it does
  stands_above : (n m : EntryPart) (x : Node) → node_of others n ≡ Some x → parent x.kind ≡ Some m
      → is_given x.kind ≡ true → decision_of others x.name ≡ None → place_of others n ≡ place_of others m
  stands_above n m x found up given undecided =
      cc (
        found,
        grown.ends (suc (length others)) n x found (omega arith),
        up,
        undecided,
        given_place _ _ given,
      )
    where
      given_place : (k : Kind) (o : Option Place) → is_given k ≡ true → place_of_kind k None o ≡ o
      given_place (Given _ _ _) o h = refl
      given_place _ o h = absurd (cc)

  -- what stands at a node that was there, and stood in its place
  took : (at : Node → Option Place) (n : EntryPart) (x : Node) → node_of others n ≡ Some x
      → at x ≡ place_of others x.name
      → option_and_then (λ y. held_at (at y) (traded_at l y.name) y.lots) (node_of l n)
      ≡ option_and_then (holding_of others) (node_of others n)
  took at n x found place =
      -- its trade is what it was
      let named = at_name others n x found in
      let traded = ap (option_and_then (of_root l)) (sym (ap root_along (line_of_grown l others grown x.name x named)))
      ∙ alike_at (of_root l) (of_root others) (root_of others x.name) (λ p e.
      let y = root_found (length others) others p x.name x named (cc) in
      let other : r.number ≢ p.entry = λ same. none_is_some (node_of others p) y.0 (unmade p (sym same)) y.1 in
      cc (change_left r.number p.entry l other)) in
      cc (grown.within.nodes n x found, place, traded, found)

  -- what it took is read while it is still there
  taken_as : (c : Command) → r.command ≡ c → taken_before l c ≡ taken_by others c
  taken_as (Split n ps) e =
      let w = splits_well t others r.firm r.command n before.accepted (cc (name_same n)) in
      let same_decision = decision_kept counted _ (cc) ∙ finds.decisions _ in
      took _ n w.node w.there (sym (place_same l others _ w.node grown (at_name others n w.node w.there) same_decision))
  taken_as (Claim n account) e =
      let w = decides_well t others r.firm r.command n before.accepted (cc (name_same n)) in
      let x = w.node in
      let own = at_name others n x w.there in
      let up = given_parent x.kind w.given in
      let over = above l others x.name up.0 x grown own up.1 in
      let undecided = ap (decision_of others) (node_called others n x w.there) ∙ w.undecided in
      took _ n x w.there
      (ap (option_and_then (place_of l)) up.1
      ∙ (cc (
        place_same l others up.0 over.node grown over.there over.decided,
        stands_above x.name up.0 x own up.1 w.given undecided,
      )))
  taken_as _ e = refl

  pub taken_same : taken_before l r.command ≡ taken_by others r.command
  taken_same = taken_as r.command refl

  -- ---- positions

  -- rows of all the changes, from which the change is to go
  module _ (rows now : PositionRows) (are : ArePositionsOf l rows) (same : SameLots rows now) (o : Option Holding)
      (is : o ≡ taken_by others r.command) where
    -- they have lost what it took and have what it added; what it took is part of what stands there without it
    lots_with : (at : Key) (side : Side)
        → (lots_in now at side + taken_at at side o
        ≡ position_of others at.firm at.account at.instrument side
        + sum_by (counted_at at side) (added_by r.firm r.command o))
        × (taken_at at side o ≤ position_of others at.firm at.account at.instrument side)
    lots_with at side =
        let place : Place = record { firm = at.firm; account = at.account } in
        let moved = moved_by counted go.last place at.instrument side in
        let took = ap (taken_at at side) is in
        let added = ap (λ o. sum_by (counted_at at side) (added_by r.firm r.command o)) is in (
          omega (arith, are.lots at side, go.same.positions at.firm at.account at.instrument side, same),
          omega (arith, taken_part counted go.last place at.instrument side),
        )

    -- so what it added is there
    pub added_there : HaveThere now (added_by r.firm r.command o)
    added_there at side = omega (arith, lots_with at side)

  pub positions_without : (rows now new : PositionRows) → ArePositionsOf l rows → SameLots rows now
      → (o : Option Holding) → o ≡ taken_by others r.command → HaveMoved new now o (added_by r.firm r.command o)
      → ArePositionsOf others new
  positions_without rows now new are same o is moved = record {
    lots = λ at side. omega (arith, (lots_with rows now are same o is at side).0, moved at side);
  }

  pub room_back : length l ≤ 1000000 → AllWithinLimits l → (rows now : PositionRows) → ArePositionsOf l rows
      → SameLots rows now → (o : Option Holding) → o ≡ taken_by others r.command
      → HasRoomBack now o (added_by r.firm r.command o)
  room_back few all rows now are same None is = tt
  room_back few all rows now are same (Some h) is =
      let b = position_within others (without_small r.number l all)
      (record { firm = h.key.firm; account = h.key.account }) h.key.instrument h.side in
      let fewer : length others ≤ 1000000 = omega (arith, without_within) in
      let i : length others * 1000000000 ≤ 1000000 * 1000000000 = mul-le-mul_right 1000000000 fewer in
      omega (
        arith,
        (lots_with rows now are same (Some h) is h.key h.side).0,
        ap (λ b. cond b h.lots 0) (is_own_key h.key h.side),
      )

  -- ---- trees

  -- what has its number is the change itself
  each_number : (P : Record → Type 0) → P r → All (λ d. d.number ≡ r.number → P d) l
  each_number P is =
      All-each (λ (d : Record). d.number ≡ r.number → P d) l
      (λ d there same. rw (same_Some d r (cc (its_own l d once there, its_own l r once u.among))) is)

  -- no other Split and no other decision names its node
  pub only_split : (n : EntryPart) → SplitsNode n r.command → splits n r.command ≡ true → IsOnlySplit l r.number n
  only_split n is named =
      record {
        each = each_number (λ d. SplitsNode n d.command) is;
        alone = (splits_well t others r.firm r.command n before.accepted named).whole;
      }

  pub only_decision : (n : EntryPart) → DecidesNode n r.command → decides n r.command ≡ true
      → IsOnlyDecision l r.number n
  only_decision n is named =
      record {
        each = each_number (λ d. DecidesNode n d.command) is;
        alone = (decides_well t others r.firm r.command n before.accepted named).undecided;
      }

-- ---- of the lots that a Split moved only those that went to other accounts go back. Then the rows are as if all had
-- been moved back

-- where the lots that were taken and added could be moved back, these can, and when they have, those have
pub record MovesBack (o back : Option Holding) (added from : List Holding) : Type 0 where
  pub there : (rows : PositionRows) → HaveThere rows added → HaveThere rows from
  pub room : (rows : PositionRows) → HasRoomBack rows o added → HasRoomBack rows back from
  pub moved : (old new : PositionRows) → HaveMoved new old back from → HaveMoved new old o added

-- those of a change that go back
abbrev pub GoesBack : List ℕ → Command → Option Holding → Type 0
GoesBack by c o = MovesBack o (goes_back by c o) (added_by by c o) (comes_from by c (goes_back by c o))

-- all that was moved
all_back : (o : Option Holding) (added : List Holding) → MovesBack o o added added
all_back o added = record { there = λ rows is. is; room = λ rows is. is; moved = λ old new is. is }

-- ---- a Split

counted_less : (w : Bool) (a b : ℕ) → a ≤ b → cond w a 0 ≤ cond w b 0
counted_less true a b less = less
counted_less false a b less = omega arith

module _ (t : House) (whole : Holding) (by : List ℕ) (n : EntryPart) (ps : List Part) (home : whole.key.firm ≡ by)
    (lots : whole.lots ≡ sum_by (λ (p : Part). p.lots) ps) (fine : first (map (refusal_of_part t by) ps) ≡ None) where
  split_back : GoesBack by (Split n ps) (Some whole)
  split_back = record {
    there = λ rows there at side.
        omega (
          arith,
          counted_less (is_key whole.key at && same_side whole.side side) _ _ (moved_few whole by ps),
          there at side,
          parts_move whole by home at side t ps fine,
        );
    room = λ rows room.
        omega (
          arith,
          ap (λ w. cond w (moved whole by ps) 0) (is_own_key whole.key whole.side),
          ap (λ w. cond w (sum_by (λ (p : Part). p.lots) ps) 0) (is_own_key whole.key whole.side),
          lots,
          parts_move whole by home whole.key whole.side t ps fine,
        );
    moved = λ old new back at side.
        omega (
          arith,
          ap (λ n. cond (is_key whole.key at && same_side whole.side side) n 0) lots,
          back at side,
          parts_move whole by home at side t ps fine,
        );
  }

-- ---- the change that is undone

module _ {t : House} {l : List Record} {r : Record} {g : Grove} (u : IsFree t l r g) where
  lawful_as : (c : Command) → r.command ≡ c → refusal_of t (others u) r.firm c ≡ None
  lawful_as c e = rw e at (lawful u)

  back_as : (c : Command) → r.command ≡ c → (o : Option Holding) → o ≡ taken_by (others u) c → GoesBack r.firm c o
  back_as (Split n ps) e None is = all_back _ []
  back_as (Split n ps) e (Some whole) is =
      let w = split_well t (others u) r.firm n ps (lawful_as (Split n ps) e) in
      let well = whole_well w whole (cc) in
      split_back t whole r.firm n ps well.0 well.1 w.holds.parts
  back_as c e o is = all_back o (added_by r.firm c o)

  pub moves_back : (o : Option Holding) → o ≡ taken_by (others u) r.command → GoesBack r.firm r.command o
  moves_back = back_as r.command refl

  few_as : AllWithinLimits l → (c : Command) → r.command ≡ c → HasFewLots c
  few_as all (Split n ps) e =
      let w = split_well t (others u) r.firm n ps (lawful_as _ e) in
      let small = rw w.there at (node_within (others u) n (without_small r.number l all)) in
      omega (arith, eqb-true _ w.node.lots w.holds.sums)
  few_as all _ e = tt

  -- the lots of its parts can be counted
  pub few_lots : AllWithinLimits l → HasFewLots r.command
  few_lots all = few_as all r.command refl
