-- What running rows of fees stand for: the sums of charges.
use Rattle.std.specs.Prelude.{◌≡◌, ℕ, ◌*◌, ◌&&◌, List, filter, sum_by, bytes_eq}
use Rattle.gu_base.specs.declared.node.Charge.{Charge}
use Rattle.gu_fees.specs.Rows.{FeeRows, paid_in, received_in, used_in}

-- what a charge costs its taker, in hundredths
abbrev pub cost : Charge → ℕ
cost c = c.lots * c.rate

-- the rows are what these charges sum to
pub record AreSumsOf (r : FeeRows) (cs : List Charge) : Type 0 where
  pub paid : (firm : List ℕ) → paid_in r firm ≡ sum_by cost (filter (λ c. bytes_eq c.taker firm) cs)
  pub received : (firm : List ℕ) → received_in r firm
      ≡ sum_by cost (filter (λ c. bytes_eq c.giver firm) cs)
  pub used : (giver taker : List ℕ) → used_in r giver taker
      ≡ sum_by (λ c. c.lots) (filter (λ c. bytes_eq c.giver giver && bytes_eq c.taker taker) cs)
