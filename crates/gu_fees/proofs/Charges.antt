-- What a charge does to the rows: their sums, and that they stay ready.
use Rattle.gu_base.specs.declared.{house.Pair.Pair, node.Charge.Charge}
use Rattle.gu_fees.specs.{Rows.{FeeRows, is_pair, IsReady, paid_in, received_in, used_in}, Sums.{AreSumsOf, cost}}
use Rattle.gu_sums.{proofs.OneMore.{less_sum, more_sum}, specs.Sums.has_row}
use Rattle.std.{proofs.Common.{bytes_eq, cond, List, ℕ, ◌&&◌, ◌++◌, ◌+◌, ◌∷◌, ◌≡◌}, specs.Prelude.IsTrue}

module _ (old new : FeeRows) where
  -- where each kind of row stays, the rows of a giver and a taker stay ready
  pub stay_ready : ((q : List ℕ) → IsTrue (has_row (bytes_eq q) old.paid) → IsTrue (has_row (bytes_eq q) new.paid))
      → ((q : List ℕ) → IsTrue (has_row (bytes_eq q) old.received) → IsTrue (has_row (bytes_eq q) new.received))
      → ((q : Pair) → IsTrue (has_row (is_pair q.giver q.taker) old.used)
      → IsTrue (has_row (is_pair q.giver q.taker) new.used))
      → (g t : List ℕ) → IsReady old g t → IsReady new g t
  stay_ready pays receives uses g t is =
      record { pays = pays t is.pays; receives = receives g is.receives; uses = uses _ is.uses }

  module _ (x : Charge) (before after : List Charge) where
    -- where each kind of row grew by what the charge counts there, the rows are the sums with it
    pub sums_more : ((q : List ℕ) → paid_in new q ≡ paid_in old q + cond (bytes_eq x.taker q) (cost x) 0)
        → ((q : List ℕ) → received_in new q ≡ received_in old q + cond (bytes_eq x.giver q) (cost x) 0)
        → ((q : Pair) → used_in new q.giver q.taker ≡ used_in old q.giver q.taker
        + cond (bytes_eq x.giver q.giver && bytes_eq x.taker q.taker) x.lots 0)
        → AreSumsOf old (before ++ after) → AreSumsOf new (before ++ x ∷ after)
    sums_more paid received used are = record {
      paid = λ q. more_sum cost (λ k. bytes_eq k.taker q) before x after _ _ (paid q) (are.paid q);
      received = λ q. more_sum cost (λ k. bytes_eq k.giver q) before x after _ _ (received q) (are.received q);
      used = λ g t. more_sum (λ k. k.lots) _ before x after _ _
          (used _) (are.used g t);
    }

    -- where each shrank by that, they are those without it
    pub sums_less : ((q : List ℕ) → paid_in new q + cond (bytes_eq x.taker q) (cost x) 0 ≡ paid_in old q)
        → ((q : List ℕ) → received_in new q + cond (bytes_eq x.giver q) (cost x) 0 ≡ received_in old q)
        → ((q : Pair) → used_in new q.giver q.taker + cond (bytes_eq x.giver q.giver && bytes_eq x.taker q.taker) x.lots
        0 ≡ used_in old q.giver q.taker)
        → AreSumsOf old (before ++ x ∷ after) → AreSumsOf new (before ++ after)
    sums_less paid received used are = record {
      paid = λ q. less_sum cost (λ k. bytes_eq k.taker q) before x after _ _ (paid q) (are.paid q);
      received = λ q. less_sum cost (λ k. bytes_eq k.giver q) before x after _ _ (received q) (are.received q);
      used = λ g t. less_sum (λ k. k.lots) _ before x after _ _
          (used _) (are.used g t);
    }
