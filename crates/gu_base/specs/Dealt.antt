-- What of the dealings of a giver and a taker stands under what else of them.
use Rattle.std.specs.Prelude.{ℕ, ◌+◌, not, ◌==◌, nat_lt, if◌then◌else◌, List, [], ◌∷◌, filter, find}
use Rattle.std.specs.Prelude.{Option, Some, None, option_map, option_and_then}
use Rattle.gu_base.specs.Terms.{is_making, raised_by_deed, used_by_deed, terms_under}
use Rattle.gu_base.specs.declared.house.Agreement.{Agreement}
use Rattle.gu_base.specs.declared.house.Deed.{Deed}
use Rattle.gu_base.specs.declared.house.Deed.TheVariants.{Makes, Raises, Uses}
use Rattle.gu_base.specs.declared.house.Dealing.{Dealing}

-- the dealings but the one of this number
abbrev pub leave_out : ℕ → List Dealing → List Dealing
leave_out k ds = filter (λ d. not (d.number == k)) ds

-- the first of these that uses more than the limit; the limit before them, and what was used by
-- then, are given
abbrev pub first_over : ℕ → ℕ → List Dealing → Option ℕ
first_over limit used [] = None
first_over limit used (d ∷ ds) =
    if nat_lt (limit + raised_by_deed d.deed) (used + used_by_deed d.deed) then Some d.number
    else first_over (limit + raised_by_deed d.deed) (used + used_by_deed d.deed) ds

-- the first Claim that passes the limit, where the dealing of this number is left out
abbrev pub first_over_without : Option Agreement → List Dealing → ℕ → Option ℕ
first_over_without file ds k =
    option_and_then (λ a. first_over a.limit 0 (leave_out k ds)) (terms_under file ds)

-- the first Raise or Claim
abbrev pub first_under_terms : List Dealing → Option ℕ
first_under_terms ds = option_map (λ d. d.number) (find (λ d. not (is_making d)) ds)

-- an Agree stands under the first Raise or Claim of its giver and taker, a Raise under the first
-- Claim that passes the limit without it, and a Claim under none of them
abbrev pub first_under_deed : Option Agreement → List Dealing → ℕ → Deed → Option ℕ
first_under_deed file ds k (Makes a) = first_under_terms ds
first_under_deed file ds k (Raises lots) = first_over_without file ds k
first_under_deed file ds k (Uses lots) = None
