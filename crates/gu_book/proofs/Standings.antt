-- The running rows of positions, with one change more.
use Rattle.gu_book.proofs
use proofs.{HoldingRows.{at_most, is_own_key}, Holdings.{balances, IsCounted, key_at}}
use proofs.{Leaves.parts_lots, Orders.in_order, Placed.node_stands, Refused.next_legal, Sound.rises_at}
use proofs.Vocabulary.{added_by, All-weaker, AllWithinLimits, ap, ArePositionsOf, arith}
use proofs.Vocabulary.{Command, cond, counted_at, first_refused, Grove, HaveMoved, Holding, House, is_none, IsNext}
use proofs.Vocabulary.{IsWithinLimits, Key, Legal, length, List, lots_at, lots_in, made, mul-le-mul_right, names, Node}
use proofs.Vocabulary.{nodes, nodes_of, None, not, Option, Part, PositionRows, Record, refl, Side, Some, Split, sum_by}
use proofs.Vocabulary.{sum_by-cons, taken_at, taken_by, Trade, [], ℕ, ◌&&◌, ◌*◌, ◌++◌, ◌+◌, ◌<◌, ◌^◌, ◌∷◌, ◌≡◌, ◌≤◌}
use Rattle.gu_book.specs.Limits.{PartsWithinLimits}
use Rattle.gu_depend.proofs.{LastMoves.{is_before, moves_its_own, position_is}, State.sum_made}
use Rattle.gu_depend.proofs.Vocabulary.{Place, position_of, replay_front, RisesFrom, split_of, stands_at, trades_in}
use Rattle.std.proofs.lemmas.List.{Filters.sum_by-filter_both, Sums.{sum_by-le, sum_by-le-sum_by}}

-- ---- a change behind others

pub counts_on : {t : House} {l : List Record} {r : Record} → Legal t (l ++ r ∷ []) → RisesFrom 1 l → IsCounted t l r
counts_on {t} {l} {r} legal rises =
    let none = replay_front t [] l _ legal.replayed in
    let o = in_order t l none rises in
    record {
      last = is_before t l r legal;
      bound = o.bound;
      sound = o.sound;
      stand = λ x e. let p = node_stands t l _ o.sound none x e in (p.place, p.is);
    }

module _ {t : House} {l : List Record} {r : Record} (c : IsCounted t l r)
    (legal : first_refused t [] (l ++ r ∷ []) ≡ None) where
  -- the positions have lost what was taken and have what was added
  pub moved_by : (at : Place) (instrument : List ℕ) (side : Side)
      → position_of (l ++ r ∷ []) at.firm at.account instrument side
      + taken_at (key_at at instrument) side (taken_by l r.command)
      ≡ position_of l at.firm at.account instrument side
      + sum_by (counted_at (key_at at instrument) side) (added_by r.firm r.command (taken_by l r.command))
  moved_by at instrument side =
      omega (
        arith,
        (moves_its_own t l r (record { once = c.last.once; replayed = legal })).positions at instrument
            side,
        (balances t l r.number r.firm r.id r.status at instrument side r.command c).equal,
      )

  -- what it takes is part of the position
  pub taken_part : (at : Place) (instrument : List ℕ) (side : Side)
      → taken_at (key_at at instrument) side (taken_by l r.command) ≤ position_of l at.firm at.account instrument side
  taken_part at instrument side =
      omega (
        arith,
        (balances t l _ _ r.id r.status at instrument side r.command c).there,
        position_is l at instrument side,
        sum_by-filter_both (λ (x : Node). names x.name r.command)
            (λ (x : Node). not (names x.name r.command)) (λ x. refl) (lots_at l at instrument side) (nodes l),
      )

-- ---- one that may follow

module _ {t : House} {l : List Record} {r : Record} {ts : Grove} (next : IsNext t l r ts) where
  counted : IsCounted t l r
  counted = counts_on (next_legal next) (rises_at 1 l r [] next.rises).rises

  -- rows that have moved as the change says
  pub positions_moved : (rows new : PositionRows) → ArePositionsOf l rows → (o : Option Holding)
      → o ≡ taken_by l r.command → HaveMoved rows new o (added_by r.firm r.command o) → ArePositionsOf (l ++ r ∷ []) new
  positions_moved rows new are o is moved = record {
    lots = λ at side.
        let place : Place = record { firm = at.firm; account = at.account } in
        omega (
          arith,
          are.lots at side,
          moved at side,
          moved_by counted (next_legal next).replayed place at.instrument
              side,
          ap (taken_at at side) is,
          ap (λ o. sum_by (counted_at at side) (added_by r.firm r.command o)) is,
        );
  }

  -- what it takes is there
  pub has_taken : (rows now : PositionRows) → ArePositionsOf l rows → (hs : List Holding) → HaveMoved rows now None hs
      → (h : Holding) → Some h ≡ taken_by l r.command → h.lots ≤ lots_in now h.key h.side
  has_taken rows now are hs put h is =
      let b = put h.key h.side in omega (
        arith,
        are.lots h.key h.side,
        taken_part counted (next_legal next).replayed
            (record { firm = h.key.firm; account = h.key.account }) h.key.instrument h.side,
        ap (taken_at h.key h.side) is,
        ap (λ b. cond b h.lots 0) (is_own_key h.key h.side),
      )

-- ---- what has room

few_lots : (ps : List Part) → PartsWithinLimits ps → sum_by (λ (p : Part). p.lots) ps ≤ 1000000000
few_lots ps within =
    let few = within.few in let b = mul-le-mul_right 10000000 few in
    omega (arith, sum_by-le (λ p. p.lots) 10000000 ps within.small)

made_lots : (k : ℕ) (by : List ℕ) (c : Command) → IsWithinLimits c
    → sum_by (λ (x : Node). x.lots) (nodes_of k by c) ≤ 1000000000
made_lots k by (Trade firm account instrument side lots) h = omega (arith, sum_by-cons)
made_lots k by (Split m ps) h = omega (arith, parts_lots, few_lots)
made_lots k by _ h = omega arith

all_lots : (l : List Record) → AllWithinLimits l → sum_by (λ (x : Node). x.lots) (nodes l) ≤ length l * 1000000000
all_lots l all =
    omega (
      arith,
      sum_made (λ (x : Node). x.lots) l,
      sum_by-le (λ (r : Record). sum_by (λ (x : Node). x.lots) (made r))
          1000000000 l (All-weaker (λ (r : Record). IsWithinLimits r.command)
          (λ (r : Record). sum_by (λ (x : Node). x.lots) (made r) ≤ 1000000000)
          (λ r h. made_lots r.number r.firm r.command h)
          l all),
    )

pub position_within : (l : List Record) → AllWithinLimits l → (at : Place) (instrument : List ℕ) (side : Side)
    → position_of l at.firm at.account instrument side ≤ length l * 1000000000
position_within l all at instrument side =
    omega (
      arith,
      position_is l at instrument side,
      sum_by-le-sum_by (lots_at l at instrument side)
          (λ (x : Node). x.lots) (nodes l) (λ x. let leaf = at_most (is_none (split_of l x.name))
          (cond (stands_at l at x.name && trades_in l instrument side x.name) x.lots 0) in
          let here = at_most (stands_at l at x.name && trades_in l instrument side x.name) x.lots in omega arith),
      all_lots l all,
    )

-- each row has room for as many lots as an entry may have
pub row_fits : {l : List Record} {rows : PositionRows} → length l ≤ 1000000 → AllWithinLimits l → ArePositionsOf l rows
    → (at : Key) (side : Side) (n : ℕ) → n ≤ 10000000 → lots_in rows at side + n < 2 ^ 64
row_fits {l} few all are at side n small =
    let c : length l * 1000000000 ≤ 1000000 * 1000000000 = mul-le-mul_right 1000000000 few in
    omega (
      arith,
      are.lots at side,
      position_within l all (record { firm = at.firm; account = at.account })
          at.instrument side,
    )
