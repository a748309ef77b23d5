-- Numbers by key, as rows. No row stands for zero.
use Rattle.std.specs.Prelude.{ℕ, ◌+◌, ◌<◌, ◌^◌, Bool, List, is_some, unwrap_or, IsTrue}
use Rattle.std.specs.Map.{lookup}

-- the number at the key that passes the test
abbrev pub number_at : {K : Type 0} → (K → Bool) → List (K × ℕ) → ℕ
number_at test rows = unwrap_or (lookup test rows) 0

-- whether the key that passes the test has a row
abbrev pub has_row : {K : Type 0} → (K → Bool) → List (K × ℕ) → Bool
has_row test rows = is_some (lookup test rows)

-- the key has a row, and its number has room for so much more
pub record CanAdd {K : Type 0} (test : K → Bool) (rows : List (K × ℕ)) (by : ℕ) : Type 0 where
  pub ready : IsTrue (has_row test rows)
  pub fits : number_at test rows + by < 2 ^ 64
