-- The written numbers of a house file.
use Rattle.std.specs.Prelude.{ℕ, ◌+◌, ◌-◌, ◌*◌, Bool, ◌&&◌, ◌||◌, not, nat_le, eqb, List, [], ◌∷◌}
use Rattle.std.specs.Prelude.{Option, None, Some, length, bytes_eq, codes, slice_index}
use Rattle.std.specs.Prelude.{if◌then◌else◌}
use Rattle.std.specs.List.{list_all}
use Rattle.gu_base.specs.Limits.{highest_rate, highest_limit}
use Rattle.gu_parties.specs.Limits.{most_digits}
use Rattle.gu_base.specs.Names.{is_digit}

-- `0`, or 1 to 14 digits without a leading zero
abbrev pub is_number_text : List ℕ → Bool
is_number_text s =
    bytes_eq s (codes "0")
    || (nat_le 1 (length s) && nat_le (length s) most_digits && list_all is_digit s
    && not (eqb (slice_index s 0) 48))

-- the value of the digits behind those whose value is n
abbrev pub value_from : ℕ → List ℕ → ℕ
value_from n [] = n
value_from n (b ∷ bs) = value_from (10 * n + (b - 48)) bs

-- the number of this text, if it is one of at most `most`
unfoldable pub number_upto : ℕ → List ℕ → Option ℕ
number_upto most text =
    if is_number_text text && nat_le (value_from 0 text) most then Some (value_from 0 text)
    else None

-- a rate, in hundredths a lot
abbrev pub rate_of : List ℕ → Option ℕ
rate_of text = number_upto highest_rate text

-- a limit, in lots
abbrev pub limit_of : List ℕ → Option ℕ
limit_of text = number_upto highest_limit text
