-- How a reader of logfmt takes a line apart.
use Rattle.std.specs.Prelude.{ℕ, ◌+◌, ◌-◌, ◌*◌, ◌==◌, nat_lt, if◌then◌else◌, List, [], ◌∷◌, Option}
use Rattle.std.specs.Prelude.{Some, None, option_map, codes, zero, suc}
use Rattle.gu_log.specs.Values.{Text}
use Rattle.gu_log.specs.Lines.{Pair}

-- where a reader stands: in a key, before a value, in one without quotes, in quotes, after a
-- backslash there, in the digits of a number (how many more come after the next, and the number so
-- far), and after a closing quote
pub data Mode : Type 0 where
  InKey : Mode
  Before : Mode
  InWord : Mode
  InQuotes : Mode
  Escape : Mode
  Code : ℕ → ℕ → Mode
  Closed : Mode

-- what is still to be read: the rest of a key and of its value, and the pairs that follow
pub record Read : Type 0 where
  pub key : Text
  pub value : Text
  pub more : List Pair

-- nothing
abbrev pub nothing : Read
nothing = record { key = []; value = []; more = [] }

-- a byte before the rest of the key
abbrev pub key_more : ℕ → Read → Read
key_more b r = record { key = b ∷ r.key; value = r.value; more = r.more }

-- a byte before the rest of the value
abbrev pub value_more : ℕ → Read → Read
value_more b r = record { key = r.key; value = b ∷ r.value; more = r.more }

-- the pair that was read
abbrev pub pair_read : Read → Pair
pair_read r = (r.key, r.value)

-- the pair before those that follow it
abbrev pub pair_more : Read → Read
pair_more r = record { key = []; value = []; more = pair_read r ∷ r.more }

-- all pairs
abbrev pub all_read : Read → List Pair
all_read r = pair_read r ∷ r.more

-- the same of what was read, if anything was
abbrev pub with_key : ℕ → Option Read → Option Read
with_key b r = option_map (key_more b) r

-- the same of the value
abbrev pub with_value : ℕ → Option Read → Option Read
with_value b r = option_map (value_more b) r

-- a pair was read: it stands before the others
abbrev pub next_pair : Option Read → Option Read
next_pair r = option_map pair_more r

-- the value of a hexadecimal digit
abbrev pub digit_value : ℕ → ℕ
digit_value c = if nat_lt c 58 then c - 48 else c - 87

-- what a reader gets from where it stands
abbrev pub read : Mode → Text → Option Read
read _ [] = None
read InKey (b ∷ bs) = if b == 61 then read Before bs else with_key b (read InKey bs)
read Before (b ∷ bs) = if b == 34 then read InQuotes bs
    else (if b == 32 then next_pair (read InKey bs)
    else (if b == 10 then Some nothing else with_value b (read InWord bs)))
read InWord (b ∷ bs) = if b == 32 then next_pair (read InKey bs)
    else (if b == 10 then Some nothing else with_value b (read InWord bs))
read InQuotes (b ∷ bs) = if b == 34 then read Closed bs
    else (if b == 92 then read Escape bs else with_value b (read InQuotes bs))
read Escape (b ∷ bs) = if b == 117 then read (Code 3 0) bs else with_value b (read InQuotes bs)
read (Code zero n) (b ∷ bs) = with_value (16 * n + digit_value b) (read InQuotes bs)
read (Code (suc k) n) (b ∷ bs) = read (Code k (16 * n + digit_value b)) bs
read Closed (b ∷ bs) = if b == 32 then next_pair (read InKey bs)
    else (if b == 10 then Some nothing else None)

-- the pairs of a line
abbrev pub read_line : Text → Option (List Pair)
read_line s = option_map all_read (read InKey s)
