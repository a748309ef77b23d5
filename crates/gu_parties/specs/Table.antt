-- The house table that lines name. A line is the list of its words.
use Rattle.std.specs.Prelude.{ℕ, Bool, List, [], ◌∷◌, Option, None, Some, bytes_eq, codes}
use Rattle.std.specs.Prelude.{if◌then◌else◌}
use Rattle.std.specs.List.{filter_map}
use Rattle.gu_base.specs.House.{House}
use Rattle.gu_base.specs.declared.house.Account.{Account}
use Rattle.gu_base.specs.declared.house.Pair.{Pair}
use Rattle.gu_base.specs.declared.house.Agreement.{Agreement}
use Rattle.gu_parties.specs.Numbers.{rate_of, limit_of}

-- the firm of a line `FIRM f`
abbrev pub firm_of : List (List ℕ) → Option (List ℕ)
firm_of (w ∷ f ∷ []) = if bytes_eq w (codes "FIRM") then Some f else None
firm_of _ = None

-- the account of a line `ACCOUNT f a`
abbrev pub account_of : List (List ℕ) → Option Account
account_of (w ∷ f ∷ a ∷ []) =
    if bytes_eq w (codes "ACCOUNT") then Some (record { firm = f; name = a }) else None
account_of _ = None

-- the instrument of a line `INSTRUMENT i`
abbrev pub instrument_of : List (List ℕ) → Option (List ℕ)
instrument_of (w ∷ i ∷ []) = if bytes_eq w (codes "INSTRUMENT") then Some i else None
instrument_of _ = None

-- the agreement of a giver and a taker, where both terms are numbers in range
abbrev pub terms_of : List ℕ → List ℕ → Option ℕ → Option ℕ → Option (Pair × Agreement)
terms_of giver taker (Some rate) (Some limit) =
    Some (record { giver = giver; taker = taker }, record { rate = rate; limit = limit })
terms_of giver taker _ _ = None

-- the agreement of a line `AGREEMENT g t r l`
abbrev pub agreement_of : List (List ℕ) → Option (Pair × Agreement)
agreement_of (w ∷ g ∷ t ∷ r ∷ l ∷ []) =
    if bytes_eq w (codes "AGREEMENT") then terms_of g t (rate_of r) (limit_of l) else None
agreement_of _ = None

-- the table of a house and these lines: what they name, in their order, each agreement fixed
abbrev pub table_of : List ℕ → List (List (List ℕ)) → House
table_of house lines = record {
  house = house;
  firms = filter_map firm_of lines;
  accounts = filter_map account_of lines;
  instruments = filter_map instrument_of lines;
  agreements = filter_map agreement_of lines;
  opening = [];
}

-- line 1 of version 1, whose agreements are fixed
abbrev pub is_fixed : List ℕ → Bool
is_fixed line = bytes_eq line (codes "GIVEUP 1")

-- line 1 of version 2, whose agreements the clearing house makes by its first calls
abbrev pub is_opening : List ℕ → Bool
is_opening line = bytes_eq line (codes "GIVEUP 2")

-- the table, with the agreements that were fixed in the opening
abbrev pub opened : House → House
opened t = record t { agreements = []; opening = t.agreements }

-- the same, where the version says so
abbrev pub opened_if : Bool → House → House
opened_if opens t = if opens then opened t else t
