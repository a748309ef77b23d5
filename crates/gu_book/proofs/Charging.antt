-- The running sums of what the live claims cost, with one change more.
use Rattle.gu_book.proofs.Vocabulary
use Rattle.std.proofs.lemmas.List
use List.{Elements.filter-append, Sums.{count_by-le-length, length-filter, sum_by-append, sum_by-le}}
use Rattle.gu_base.specs.Fees.{paid_by, received_by}
use Rattle.gu_book.{proofs.Refused.next_legal, specs.Charging.{HasRoomFor, IsCharged, IsSmallCharge}}
use Rattle.gu_depend.proofs.{LastMoves.moves_its_own, Vocabulary.{Charge, charges, highest_rate, most_lots}}
use Rattle.{gu_fees.specs.{Rows.{FeeRows, paid_in, received_in}, Sums.{AreSumsOf, cost}}, std.proofs.Common.mul-le-mul}
use Vocabulary.{All, All-append, All-cons, All-filter}
use Vocabulary.{All-nil, All-weaker, ap, append-nil, AreFeesOf, arith, Bool, bytes_eq, bytes_same, charge_of}
use Vocabulary.{cond, cons_option, filter, filter_map, Grove, House, IfSome, IsNext, length, List, mul-le-mul_right}
use Vocabulary.{None, Option, Record, Some, sum_by, sum_by-cons, true, [], ℕ, ◌&&◌, ◌*◌, ◌++◌, ◌+◌, ◌∷◌, ◌≡◌, ◌≤◌}

-- ---- one change more

small_option : (o : Option Charge) → IfSome o (λ c. c.lots ≤ most_lots) → IfSome o (λ c. c.rate ≤ highest_rate)
    → All IsSmallCharge (cons_option o [])
small_option None lots rate = All-nil IsSmallCharge
small_option (Some c) lots rate =
    All-cons IsSmallCharge c [] (record { lots = lots; rate = rate }) (All-nil IsSmallCharge)

pub fees_push : {t : House} {l : List Record} {r : Record} {ts : Grove} → IsNext t l r ts → (fees new : FeeRows)
    → AreFeesOf t l fees → (o : Option Charge) → o ≡ charge_of t l r.command → IfSome o (λ c. c.lots ≤ most_lots)
    → IfSome o (λ c. c.rate ≤ highest_rate)
    → ((cs : List Charge) → AreSumsOf fees cs → AreSumsOf new (cs ++ cons_option o [])) → AreFeesOf t (l ++ r ∷ []) new
fees_push {t} {l} {r} next fees new are o is lots rate more =
    let all : charges t l ++ cons_option o [] ≡ charges t (l ++ r ∷ []) =
    cc ((moves_its_own t l r (next_legal next)).charged) in
    record {
      sums = rw all at (more _ are.sums);
      small = rw all at (All-append IsSmallCharge (charges t l) (cons_option o []) are.small
          (small_option o lots rate));
    }

-- a change that costs nothing
pub fees_stay : {t : House} {l : List Record} {r : Record} {ts : Grove} → IsNext t l r ts → (fees : FeeRows)
    → AreFeesOf t l fees → None ≡ charge_of t l r.command → AreFeesOf t (l ++ r ∷ []) fees
fees_stay next fees are free = fees_push next _ _ are _ free tt tt (λ cs sums. rw (append-nil cs) sums)

pub no_fees : (t : House) (fees : FeeRows) → AreSumsOf fees [] → AreFeesOf t [] fees
no_fees t fees are = record { sums = are; small = All-nil IsSmallCharge }

-- ---- room

small_cost : (c : Charge) → IsSmallCharge c → cost c ≤ 1000000000000
small_cost c small = mul-le-mul small.lots small.rate

fewer_by : {Y : Type 0} (o : Option Y) (ys : List Y) (n : ℕ) → length ys ≤ n → length (cons_option o ys) ≤ n + 1
fewer_by None ys n few = omega arith
fewer_by (Some y) ys n few = omega arith

-- what the elements of a list give is no longer than the list
pub fewer_given : {X Y : Type 0} (h : X → Option Y) (xs : List X) → length (filter_map h xs) ≤ length xs
fewer_given h [] = omega arith
fewer_given h (x ∷ xs) = omega (arith, fewer_by (h x) _ (length xs) (fewer_given h xs))

-- a sum over a million elements at most
pub sum_most : {X : Type 0} (w : X → ℕ) (most : ℕ) (xs : List X) → All (λ x. w x ≤ most) xs → length xs ≤ 1000000
    → sum_by w xs ≤ 1000000 * most
sum_most w most xs all few =
    let b = mul-le-mul_right most few in omega (arith, sum_by-le w _ xs all)

module _ {t : House} {l : List Record} {fees : FeeRows} (are : AreFeesOf t l fees) where
  -- and over some of the charges of a list
  bounded : length l ≤ 1000000 → (w : Charge → ℕ) (most : ℕ) → ((c : Charge) → IsSmallCharge c → w c ≤ most)
      → (takes : Charge → Bool) → sum_by w (filter takes (charges t l)) ≤ 1000000 * most
  bounded few w most small takes =
      let each = All-weaker IsSmallCharge (λ (c : Charge). w c ≤ most) small (charges t l) are.small in
      sum_most w most _ (All-filter takes (λ (c : Charge). w c ≤ most) (charges t l) each)
      (omega (arith, length-filter, count_by-le-length, fewer_given))

  -- what each firm pays and receives
  pub paid_told : (firm : List ℕ) → paid_in fees firm ≡ paid_by t l firm
  paid_told = are.sums.paid

  pub received_told : (firm : List ℕ) → received_in fees firm ≡ received_by t l firm
  received_told = are.sums.received

pub has_room : (t : House) (l : List Record) (fees : FeeRows) → AreFeesOf t l fees → length l ≤ 1000000
    → (o : Option Charge) → IfSome o (λ c. c.lots ≤ most_lots) → IfSome o (λ c. c.rate ≤ highest_rate)
    → HasRoomFor fees o
has_room t l fees are few None lots rate = tt
has_room t l fees are few (Some c) lots rate =
    let sums = are.sums in
    let own = small_cost c (record { lots = lots; rate = rate }) in
    let cost_most = bounded are few cost _ small_cost in
    let lots_most = bounded are few (λ d. d.lots) 10000000 (λ d small. small.lots) in
    record {
      paid = omega (arith, sums.paid c.taker, cost_most (λ d. bytes_eq d.taker c.taker));
      received = omega (arith, sums.received c.giver, cost_most (λ d. bytes_eq d.giver c.giver));
      used = omega (
        arith,
        sums.used c.giver c.taker,
        lots_most (λ d. bytes_eq d.giver c.giver && bytes_eq d.taker c.taker),
      );
    }

-- ---- what is there

own_part : (w : Charge → ℕ) (takes : Charge → Bool) (cs : List Charge) (c : Charge) → takes c ≡ true
    → w c ≤ sum_by w (filter takes (cs ++ c ∷ []))
own_part w takes cs c own =
    let b = sum_by-append w (filter takes cs) (filter takes (c ∷ [])) in
    omega (
      arith,
      ap (sum_by w) (filter-append takes cs (c ∷ [])),
      ap (λ b. sum_by w (cond b (c ∷ []) [])) own,
      sum_by-cons w c [],
    )

-- a charge that the sums have can be taken out
pub is_charged : (fees : FeeRows) (cs : List Charge) (o : Option Charge) → AreSumsOf fees (cs ++ cons_option o [])
    → IfSome o (λ c. c.lots ≤ most_lots) → IfSome o (λ c. c.rate ≤ highest_rate) → IsCharged fees o
is_charged fees cs None sums lots rate = tt
is_charged fees cs (Some c) sums lots rate =
    let small = small_cost c (record { lots = lots; rate = rate }) in
    record {
      fits = omega arith;
      paid = rw (sums.paid c.taker) (own_part cost _ cs c (bytes_same c.taker));
      received = rw (sums.received c.giver) (own_part cost _ cs c (bytes_same c.giver));
      used = rw (sums.used c.giver c.taker) (own_part _ _ cs c (cc (bytes_same c.giver, bytes_same c.taker)));
    }
