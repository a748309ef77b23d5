-- Running rows of fees.
use Rattle.std.specs.Prelude.{ℕ, ◌+◌, ◌*◌, ◌<◌, ◌≤◌, ◌^◌, Bool, ◌&&◌, List, IsTrue, bytes_eq}
use Rattle.gu_base.specs.declared.house.Pair.{Pair}
use Rattle.gu_sums.specs.Sums.{number_at, has_row}

-- hundredths paid and received by each firm, and lots used by each giver and taker
pub record FeeRows : Type 0 where
  pub paid : List (List ℕ × ℕ)
  pub received : List (List ℕ × ℕ)
  pub used : List (Pair × ℕ)

abbrev pub is_pair : List ℕ → List ℕ → Pair → Bool
is_pair giver taker p = bytes_eq giver p.giver && bytes_eq taker p.taker

-- what the firm has paid, in hundredths
abbrev pub paid_in : FeeRows → List ℕ → ℕ
paid_in r firm = number_at (bytes_eq firm) r.paid

-- what the firm has received, in hundredths
abbrev pub received_in : FeeRows → List ℕ → ℕ
received_in r firm = number_at (bytes_eq firm) r.received

-- the lots that the giver and the taker have used
abbrev pub used_in : FeeRows → List ℕ → List ℕ → ℕ
used_in r giver taker = number_at (is_pair giver taker) r.used

-- the rows that a charge of this giver and taker changes are there
pub record IsReady (r : FeeRows) (giver taker : List ℕ) : Type 0 where
  pub pays : IsTrue (has_row (bytes_eq taker) r.paid)
  pub receives : IsTrue (has_row (bytes_eq giver) r.received)
  pub uses : IsTrue (has_row (is_pair giver taker) r.used)

-- each sum has room for these lots at this rate
pub record HasRoom (r : FeeRows) (giver taker : List ℕ) (lots rate : ℕ) : Type 0 where
  pub paid : paid_in r taker + lots * rate < 2 ^ 64
  pub received : received_in r giver + lots * rate < 2 ^ 64
  pub used : used_in r giver taker + lots < 2 ^ 64

-- the rows are there, and each sum has room for these lots at this rate
pub record CanCharge (r : FeeRows) (giver taker : List ℕ) (lots rate : ℕ) : Type 0 where
  pub ready : IsReady r giver taker
  pub paid : paid_in r taker + lots * rate < 2 ^ 64
  pub received : received_in r giver + lots * rate < 2 ^ 64
  pub used : used_in r giver taker + lots < 2 ^ 64

-- each sum has at least these lots at this rate, which are no more than a number of 64 bits
pub record CanUncharge (r : FeeRows) (giver taker : List ℕ) (lots rate : ℕ) : Type 0 where
  pub fits : lots * rate < 2 ^ 64
  pub paid : lots * rate ≤ paid_in r taker
  pub received : lots * rate ≤ received_in r giver
  pub used : lots ≤ used_in r giver taker
