-- What a house table lacks to extend another.
use Rattle.std.specs.Prelude.{ℕ, ◌+◌, Bool, true, false, not, List, [], ◌∷◌, Option}
use Rattle.std.specs.Prelude.{Some, None, option_map, bytes_eq, if◌then◌else◌}
use Rattle.std.specs.List.{find}
use Rattle.gu_base.specs.House.{House, knows_firm, knows_account, knows_instrument}
use Rattle.gu_base.specs.declared.house.Pair.{Pair}
use Rattle.gu_base.specs.declared.house.Agreement.{Agreement}
use Rattle.gu_lives.specs.Extends.{same_made, keeps_terms}
use Rattle.gu_roll.specs.declared.lack.Lack.{Lack}
use Rattle.gu_roll.specs.declared.lack.Lack.TheVariants.{OtherHouse, OtherOpening, NoFirm}
use Rattle.gu_roll.specs.declared.lack.Lack.TheVariants.{NoAccount, NoInstrument, OtherTerms}
use Rattle.gu_roll.specs.declared.lack.Lack.TheVariants.{NewTerms}

-- the first that fails a test
abbrev pub first_without : {A : Type 0} → (A → Bool) → List A → Option A
first_without test xs = find (λ x. not (test x)) xs

-- the first place, counted from n, at which two openings aren't the same
abbrev pub first_apart : ℕ → List (Pair × Agreement) → List (Pair × Agreement) → Option ℕ
first_apart n [] [] = None
first_apart n (u ∷ us) (t ∷ ts) = if same_made u t then first_apart (n + 1) us ts else Some n
first_apart n _ _ = Some n

-- both are the same pair with the same terms, or none
abbrev pub same_options : Option (Pair × Agreement) → Option (Pair × Agreement) → Bool
same_options None None = true
same_options (Some a) (Some b) = same_made a b
same_options _ _ = false

-- the first of some lacks
abbrev pub first : List (Option Lack) → Option Lack
first [] = None
first (None ∷ rest) = first rest
first (Some lack ∷ rest) = Some lack

-- the clearing house of the first table, where the second has another
abbrev pub house_lack : House → House → Option Lack
house_lack t u = if bytes_eq u.house t.house then None else Some OtherHouse

-- what the second table lacks of the lines of the first, but for the opening: a firm, an account,
-- an instrument, the fixed terms of two firms of the first table, and that two such firms have no
-- others. Of each kind it is the first in the order of the first table, and the last in that of the
-- second.
abbrev pub line_lacks : House → House → List (Option Lack)
line_lacks t u =
    option_map NoFirm (first_without (knows_firm u) t.firms)
    ∷ option_map NoAccount (first_without (λ a. knows_account u a.firm a.name) t.accounts)
    ∷ option_map NoInstrument (first_without (knows_instrument u) t.instruments)
    ∷ option_map (λ e. OtherTerms e.0) (first_without (keeps_terms t u) t.agreements)
    ∷ option_map (λ e. NewTerms e.0) (first_without (keeps_terms t u) u.agreements) ∷ []

-- What the second table lacks to extend the first: its clearing house, an agreement of the opening,
-- counted from 1, or a line.
abbrev pub lack_of : House → House → Option Lack
lack_of t u =
    first (house_lack t u ∷ option_map OtherOpening (first_apart 1 u.opening t.opening)
    ∷ line_lacks t u)

-- what it lacks beside the opening
abbrev pub other_lack_of : House → House → Option Lack
other_lack_of t u = first (house_lack t u ∷ line_lacks t u)
