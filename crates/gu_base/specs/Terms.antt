-- The terms of a giver and a taker in a list of changes, and what is dealt under them.
use Rattle.std.specs.Prelude.{ℕ, ◌+◌, Bool, ◌&&◌, List, [], ◌∷◌, filter_map, sum_by, Option, Some}
use Rattle.std.specs.Prelude.{None, is_some, option_map, option_and_then, bytes_eq, if◌then◌else◌}
use Rattle.std.specs.Option.{option_or}
use Rattle.gu_base.specs.House.{House, agreement}
use Rattle.gu_base.specs.Nodes.{node_of}
use Rattle.gu_base.specs.declared.house.Agreement.{Agreement}
use Rattle.gu_base.specs.declared.house.Deed.{Deed}
use Rattle.gu_base.specs.declared.house.Deed.TheVariants.{Makes, Raises, Uses}
use Rattle.gu_base.specs.declared.house.Dealing.{Dealing}
use Rattle.gu_base.specs.declared.entry.Record.{Record}
use Rattle.gu_base.specs.declared.node.Kind.{Kind}
use Rattle.gu_base.specs.declared.node.Kind.TheVariants.{Given}
use Rattle.gu_base.specs.declared.node.Node.{Node}
use Rattle.gu_base.specs.declared.command.Command.{Command}
use Rattle.gu_base.specs.declared.command.Command.TheVariants.{Claim, Agree, Raise}

-- a claim of a given part of these lots uses them, if it is given by this giver to this taker
abbrev pub use_of_kind : List ℕ → List ℕ → ℕ → Kind → Option Deed
use_of_kind giver taker lots (Given _ g k) =
    if bytes_eq g giver && bytes_eq k taker then Some (Uses lots) else None
use_of_kind giver taker lots _ = None

-- a claim of the node uses its lots, where it is given by the one to the other
abbrev pub use_of_node : List ℕ → List ℕ → Node → Option Deed
use_of_node giver taker x = use_of_kind giver taker x.lots x.kind

-- what a command of a firm does to the terms of a giver and a taker, if it does anything
abbrev pub deed_of : List Record → List ℕ → List ℕ → List ℕ → Command → Option Deed
deed_of l giver taker by (Agree g k rate limit) =
    if bytes_eq g giver && bytes_eq k taker
    then Some (Makes (record { rate = rate; limit = limit }))
    else None
deed_of l giver taker by (Raise g lots) =
    if bytes_eq g giver && bytes_eq by taker then Some (Raises lots) else None
deed_of l giver taker by (Claim n _) = option_and_then (use_of_node giver taker) (node_of l n)
deed_of l giver taker by _ = None

-- the same with the number of the entry
abbrev pub dealing_of : List Record → List ℕ → List ℕ → Record → Option Dealing
dealing_of l giver taker r =
    option_map (λ d. record { number = r.number; deed = d })
    (deed_of l giver taker r.firm r.command)

-- what some changes do to the terms of a giver and a taker, in their order; nodes are looked up in
-- the first list
abbrev pub dealings_in : List Record → List Record → List ℕ → List ℕ → List Dealing
dealings_in l among giver taker = filter_map (dealing_of l giver taker) among

-- the Agree, the Raises and the Claims of a giver and a taker, in their order
abbrev pub dealings : List Record → List ℕ → List ℕ → List Dealing
dealings l giver taker = dealings_in l l giver taker

-- ---- over what a giver and a taker deal, and the terms that the house table has of them

-- the terms that a deed makes
abbrev pub made_by_deed : Deed → Option Agreement
made_by_deed (Makes a) = Some a
made_by_deed _ = None

-- it makes terms
abbrev pub is_making : Dealing → Bool
is_making d = is_some (made_by_deed d.deed)

-- the lots by which it raises the limit
abbrev pub raised_by_deed : Deed → ℕ
raised_by_deed (Raises lots) = lots
raised_by_deed _ = 0

-- the lots that it uses
abbrev pub used_by_deed : Deed → ℕ
used_by_deed (Uses lots) = lots
used_by_deed _ = 0

-- the terms of the first that makes some
abbrev pub made_in : List Dealing → Option Agreement
made_in [] = None
made_in (d ∷ ds) = option_or (made_by_deed d.deed) (made_in ds)

-- the terms of the house table, or else those of the Agree
abbrev pub terms_under : Option Agreement → List Dealing → Option Agreement
terms_under file ds = option_or file (made_in ds)

-- the lots of the Raises
abbrev pub raised_under : List Dealing → ℕ
raised_under ds = sum_by (λ d. raised_by_deed d.deed) ds

-- the limit of the terms and the lots of the Raises
abbrev pub limit_under : Option Agreement → List Dealing → Option ℕ
limit_under file ds = option_map (λ a. a.limit + raised_under ds) (terms_under file ds)

-- the lots of the Claims
abbrev pub used_under : List Dealing → ℕ
used_under ds = sum_by (λ d. used_by_deed d.deed) ds

-- ---- in a list of changes

-- the terms of a giver and a taker
abbrev pub terms_of : House → List Record → List ℕ → List ℕ → Option Agreement
terms_of t l giver taker = terms_under (agreement t giver taker) (dealings l giver taker)

-- the lots that may be claimed under them
abbrev pub limit_of : House → List Record → List ℕ → List ℕ → Option ℕ
limit_of t l giver taker = limit_under (agreement t giver taker) (dealings l giver taker)

-- the lots that were claimed of what the giver gave to the taker
abbrev pub used_of : List Record → List ℕ → List ℕ → ℕ
used_of l giver taker = used_under (dealings l giver taker)
