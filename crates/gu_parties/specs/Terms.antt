-- The ranges of the terms of agreements.
use Rattle.std.specs.Prelude.{Bool, ◌&&◌, nat_le, List}
use Rattle.std.specs.List.{list_all}
use Rattle.gu_base.specs.House.{House}
use Rattle.gu_base.specs.declared.house.Pair.{Pair}
use Rattle.gu_base.specs.declared.house.Agreement.{Agreement}
use Rattle.gu_base.specs.Limits.{highest_rate, highest_limit}

-- a rate of at most 100,000 hundredths a lot, and a limit of at most 10,000,000,000,000 lots
abbrev pub is_in_range : Agreement → Bool
is_in_range a = nat_le a.rate highest_rate && nat_le a.limit highest_limit

-- all of these agreements have their terms in range
abbrev pub are_in_range : List (Pair × Agreement) → Bool
are_in_range agreements = list_all (λ e. is_in_range e.1) agreements

-- all agreements of the table that are fixed have their terms in range
abbrev pub has_terms_in_range : House → Bool
has_terms_in_range t = are_in_range t.agreements
