-- Of what a split moves, the lots of the parts that stay where the whole stood cancel: the others alone have to be
-- moved.
use Rattle.gu_book.proofs.Vocabulary
use Rattle.gu_base.proofs.Passing.{at_node_none, part_passes, refusal_parts, split_passes}
use Rattle.gu_book.proofs.{Filed.live_at, Holdings.counts_or, Leaves.cond_same}
use Rattle.gu_book.specs.{Found.IsFoundAs, Holdings.lots_told}
use Rattle.gu_depend.proofs.{Deals.SettledAt, Vocabulary.{Deal, deal_in, Place, refusal_of, RisesFrom, SplitHolds}}
use Vocabulary.{and_parts, any_found}
use Vocabulary.{ap, arith, Bool, bytes_eq, bytes_eq-Decides, Command, cond, cons_option, counted_at, EntryPart}
use Vocabulary.{eqb-true, false, filter_map, find, find_passes, first, first_none, Found, found_in, found_once}
use Vocabulary.{Grove, HaveMoved, held_at, Holding, holding_away, holding_of, House, is_key, is_live_trade, is_trade}
use Vocabulary.{IsGroveOf, IsPlace, IsSome, Key, knows_account, List, map, Node, None, not, number_once, Option}
use Vocabulary.{option_and_then, option_map, Part, part_away, part_holding, PositionRows, Record, refl, refusal_of_part}
use Vocabulary.{rises_distinct, same_side, same_Some, Side, Some, Split, split_row, sum_by, sum_by-cons}
use Vocabulary.{sym, taken_at, Trade, traded_at, true, unwrap_or, [], ℕ, ◌&&◌, ◌+◌, ◌==◌, ◌||◌, ◌∷◌, ◌≡◌, ◌≤◌}

-- ---- sums

lots_or : (o : Option Holding) (hs : List Holding)
    → sum_by (λ (h : Holding). h.lots) (cons_option o hs) ≡ lots_told o + sum_by (λ (h : Holding). h.lots) hs
lots_or None hs = omega arith
lots_or (Some h) hs = sum_by-cons (λ h. h.lots) h hs

both_counted : (w : Bool) (a b : ℕ) → cond w (a + b) 0 ≡ cond w a 0 + cond w b 0
both_counted true a b = refl
both_counted false a b = refl

-- ---- the parts

-- so many lots where the whole stood
abbrev pub at_whole : Holding → ℕ → Holding
at_whole whole n = record { key = whole.key; side = whole.side; lots = n }

module _ (whole : Holding) (by : List ℕ) where
  -- what a part holds, in all and elsewhere, by whether it is in the whole's account, and whether it is an own part
  abbrev away_told : List ℕ → ℕ → Bool → Option Holding
  away_told a n here = cond here None (Some (holding_away whole by a n))

  abbrev holding_told : Option (List ℕ) → ℕ → Bool → Option Holding
  holding_told o n own = cond own (option_map (λ a. holding_away whole by a n) o) (Some (at_whole whole n))

  abbrev elsewhere_told : Option (List ℕ) → ℕ → Bool → Option Holding
  elsewhere_told o n own = cond own (option_and_then (λ a. away_told a n (bytes_eq a whole.key.account)) o) None

  few_away : (a : List ℕ) (n : ℕ) (here : Bool) → lots_told (away_told a n here) ≤ n
  few_away a n true = omega arith
  few_away a n false = omega arith

  few_told : (o : Option (List ℕ)) (n : ℕ) (own : Bool) → lots_told (elsewhere_told o n own) ≤ n
  few_told o n false = omega arith
  few_told None n true = omega arith
  few_told (Some a) n true = few_away a n _

  -- the lots of all parts that go elsewhere
  abbrev pub moved : List Part → ℕ
  moved ps = sum_by (λ (h : Holding). h.lots) (filter_map (part_away whole by) ps)

  -- are no more than those of all parts
  pub moved_few : (ps : List Part) → moved ps ≤ sum_by (λ (p : Part). p.lots) ps
  moved_few [] = omega arith
  moved_few (p ∷ ps) =
      omega (
        arith,
        lots_or (part_away whole by p) (filter_map (part_away whole by) ps),
        few_told p.account p.lots (bytes_eq p.firm by),
        moved_few ps,
        sum_by-cons (λ (p : Part). p.lots) p ps,
      )

  module _ (home : whole.key.firm ≡ by) (at : Key) (side : Side) where
    own_moves : (a : List ℕ) (n : ℕ) (here : Bool) → bytes_eq a whole.key.account ≡ here
        → counted_at at side (holding_away whole by a n)
        + counted_at at side (at_whole whole (lots_told (away_told a n here)))
        ≡ taken_at at side (away_told a n here) + counted_at at side (at_whole whole n)
    own_moves a n false e = refl
    own_moves a n true e =
        let same : holding_away whole by a n ≡ at_whole whole n = rw (← home, (bytes_eq-Decides a _).0 e) refl in
        omega (arith, ap (counted_at at side) same, cond_same 0 (is_key whole.key at && same_side whole.side side))

    moves_told : (t : House) (o : Option (List ℕ)) (n : ℕ) (own : Bool)
        → (not own || unwrap_or (option_map (knows_account t by) o) false) ≡ true
        → taken_at at side (holding_told o n own)
        + counted_at at side (at_whole whole (lots_told (elsewhere_told o n own)))
        ≡ taken_at at side (elsewhere_told o n own) + counted_at at side (at_whole whole n)
    moves_told t o n false known = omega (arith, cond_same)
    moves_told t None n true known = absurd (cc)
    moves_told t (Some a) n true known = own_moves a n _ refl

    -- what all parts hold, less the lots of the whole, is what goes elsewhere, less so many lots where the whole stood
    pub parts_move : (t : House) (ps : List Part) → first (map (refusal_of_part t by) ps) ≡ None
        → sum_by (counted_at at side) (filter_map (part_holding whole by) ps)
        + counted_at at side (at_whole whole (moved ps))
        ≡ sum_by (counted_at at side) (filter_map (part_away whole by) ps)
        + counted_at at side (at_whole whole (sum_by (λ (p : Part). p.lots) ps))
    parts_move t [] fine = refl
    parts_move t (p ∷ ps) fine =
        let f = first_none _ _ fine in
        let w = is_key whole.key at && same_side whole.side side in
        omega (
          arith,
          moves_told t p.account p.lots (bytes_eq p.firm by) (part_passes t by p f.0).1,
          parts_move t ps f.1,
          counts_or at side (part_holding whole by p) (filter_map (part_holding whole by) ps),
          counts_or at side (part_away whole by p) (filter_map (part_away whole by) ps),
          ap (λ n. cond w n 0) (lots_or (part_away whole by p) (filter_map (part_away whole by) ps)),
          both_counted w (lots_told (part_away whole by p)) (moved ps),
          ap (λ n. cond w n 0) (sum_by-cons (λ (p : Part). p.lots) p ps),
          both_counted w p.lots (sum_by (λ (p : Part). p.lots) ps),
        )

-- ---- what a node that is named holds

deal_of : (c : Command) → is_trade c ≡ true → (d : Deal) × (deal_in c ≡ Some d)
deal_of (Trade _ _ instrument side _) is = (record { instrument = instrument; side = side }, refl)
deal_of _ is = absurd (cc)

-- a live trade trades something
deal_there : (l : List Record) (k : ℕ) → RisesFrom 1 l → is_live_trade l k ≡ true
    → (d : Deal)
    × (option_and_then (λ (r : Record). deal_in r.command) (find (λ (r : Record). r.number == k) l) ≡ Some d)
deal_there l k rises live =
    let own : Record → Bool = λ r. (r.number == k) && is_trade r.command in
    let r = any_found own l live in
    let passes = and_parts (r.0.number == k) (is_trade r.0.command) (find_passes own l r.0 r.1) in
    let d = deal_of r.0.command passes.1 in (
      d.0,
      cc (found_once (λ (r : Record). r.number == k) l r.0 (found_in own l r.0 r.1) passes.0
          (number_once l (rises_distinct 1 l rises) k)),
    )

-- so each node that was found holds something
pub holds_some : {l : List Record} {g : Grove} → IsGroveOf l g → RisesFrom 1 l → {x : Node} {f : Found} {p : List ℕ}
    → IsFoundAs l x f → IsPlace g x.name f.trade p → IsSome (holding_of l x)
holds_some {l} {g} filed rises {x} {f} is place =
    let d = deal_there l f.trade rises (live_at filed f.trade place.tree place.found) in
    let of_root : EntryPart → Option Deal =
    λ root. option_and_then (λ (r : Record). deal_in r.command) (find (λ (r : Record). r.number == root.entry) l) in
    let traded : traded_at l x.name ≡ Some d.0 = cc in
    rw (is.place, traded) refl

-- ---- a Split that may follow

-- what is known of its node
pub split_well : (t : House) (l : List Record) (by : List ℕ) (n : EntryPart) (ps : List Part)
    → refusal_of t l by (Split n ps) ≡ None → SettledAt l n (SplitHolds t l by ps)
split_well t l by n ps lawful =
    let there = at_node_none (split_row t l by ps) _ (refusal_parts t l by (Split n ps) lawful).1 in
    record { node = there.0; there = there.1.0; holds = (split_passes t l by ps there.0 there.1.1).0 }

-- what is held somewhere has the lots that it is said to have, and is held by the firm that stands there
pub held_is : (o : Option Place) (w : Option Deal) (n : ℕ) (h : Holding) → Some h ≡ held_at o w n
    → (h.lots ≡ n) × (option_map (λ (p : Place). p.firm) o ≡ Some h.key.firm)
held_is None w n h is = absurd (cc)
held_is (Some p) None n h is = absurd (cc)
held_is (Some p) (Some d) n h is =
    let same = same_Some h _ is in
    (cc, ap (λ h. Some h.key.firm) (sym same))

-- the whole stands in an account of the firm that splits it, and has the lots of its parts
pub whole_well : {t : House} {l : List Record} {by : List ℕ} {n : EntryPart} {ps : List Part}
    → (w : SettledAt l n (SplitHolds t l by ps)) → (h : Holding) → Some h ≡ holding_of l w.node
    → (h.key.firm ≡ by) × (h.lots ≡ sum_by (λ (p : Part). p.lots) ps)
whole_well {t} {l} {by} w h is =
    let held = held_is _ _ _ h is in
    let owner : bytes_eq h.key.firm by ≡ true = cc w.holds.owned in
    ((bytes_eq-Decides h.key.firm by).0 owner, cc (eqb-true _ w.node.lots w.holds.sums))

-- what goes elsewhere was put there, and so many lots were taken from where the whole stands: then the rows have moved
-- as the split says
pub split_moved : (t : House) (whole : Holding) (by : List ℕ) (ps : List Part) → whole.key.firm ≡ by
    → whole.lots ≡ sum_by (λ (p : Part). p.lots) ps → first (map (refusal_of_part t by) ps) ≡ None
    → (rows mid new : PositionRows) → HaveMoved rows mid None (filter_map (part_away whole by) ps)
    → HaveMoved mid new (Some (at_whole whole (moved whole by ps))) []
    → HaveMoved rows new (Some whole) (filter_map (part_holding whole by) ps)
split_moved t whole by ps home lots fine rows mid new put taken at side =
    omega (
      arith,
      put at side,
      taken at side,
      parts_move whole by home at side t ps fine,
      ap (λ n. cond (is_key whole.key at && same_side whole.side side) n 0) lots,
    )
