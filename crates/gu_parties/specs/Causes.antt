-- What is wrong with a line, after the table of the lines before it. A line is the list of its
-- words.
use Rattle.std.specs.Prelude.{ℕ, Bool, ◌||◌, List, [], ◌∷◌, Option, None, Some, is_some, bytes_eq}
use Rattle.std.specs.Prelude.{codes, if◌then◌else◌}
use Rattle.gu_base.specs.House.{House, knows_firm, knows_account, knows_instrument, agreement}
use Rattle.gu_base.specs.Names.{is_firm_text}
use Rattle.gu_parties.specs.Numbers.{rate_of, limit_of}
use Rattle.gu_parties.specs.Table.{is_fixed, is_opening}
use Rattle.gu_parties.specs.declared.fault.Cause.{Cause}
use Rattle.gu_parties.specs.declared.fault.Cause.TheVariants.{BadVersion, NoHouse, BadLine, BadName}
use Rattle.gu_parties.specs.declared.fault.Cause.TheVariants.{BadNumber, OwnAgreement, UnknownName}
use Rattle.gu_parties.specs.declared.fault.Cause.TheVariants.{NamedTwice}

-- the cause, unless the test holds
abbrev pub unless : Bool → Cause → Option Cause
unless holds c = if holds then None else Some c

-- the cause, where the test holds
abbrev pub where_so : Bool → Cause → Option Cause
where_so holds c = if holds then Some c else None

-- the first cause of a list
abbrev pub first : List (Option Cause) → Option Cause
first [] = None
first (None ∷ rest) = first rest
first (Some c ∷ rest) = Some c

-- of `FIRM f`
abbrev pub firm_cause : House → List ℕ → Option Cause
firm_cause t f = first (
    unless (is_firm_text f) BadName
    ∷ where_so (knows_firm t f) NamedTwice ∷ [])

-- of `ACCOUNT f a`
abbrev pub account_cause : House → List ℕ → List ℕ → Option Cause
account_cause t f a = first (
    unless (is_firm_text f) BadName
    ∷ unless (is_firm_text a) BadName
    ∷ unless (knows_firm t f) UnknownName
    ∷ where_so (knows_account t f a) NamedTwice ∷ [])

-- of `INSTRUMENT i`
abbrev pub instrument_cause : House → List ℕ → Option Cause
instrument_cause t i = first (
    unless (is_firm_text i) BadName
    ∷ where_so (knows_instrument t i) NamedTwice ∷ [])

-- of `AGREEMENT g t r l`
abbrev pub agreement_cause : House → (giver taker rate limit : List ℕ) → Option Cause
agreement_cause t giver taker rate limit = first (
    unless (is_firm_text giver) BadName
    ∷ unless (is_firm_text taker) BadName
    ∷ unless (is_some (rate_of rate)) BadNumber
    ∷ unless (is_some (limit_of limit)) BadNumber
    ∷ where_so (bytes_eq giver taker) OwnAgreement
    ∷ unless (knows_firm t giver) UnknownName
    ∷ unless (knows_firm t taker) UnknownName
    ∷ where_so (is_some (agreement t giver taker)) NamedTwice ∷ [])

-- of a line behind line 2: its first word and the number of its words say which line it is
abbrev pub cause_of : House → List (List ℕ) → Option Cause
cause_of t (kind ∷ name ∷ []) =
    if bytes_eq kind (codes "FIRM") then firm_cause t name
    else if bytes_eq kind (codes "INSTRUMENT") then instrument_cause t name
    else Some BadLine
cause_of t (kind ∷ firm ∷ account ∷ []) =
    if bytes_eq kind (codes "ACCOUNT") then account_cause t firm account else Some BadLine
cause_of t (kind ∷ giver ∷ taker ∷ rate ∷ limit ∷ []) =
    if bytes_eq kind (codes "AGREEMENT") then agreement_cause t giver taker rate limit
    else Some BadLine
cause_of t _ = Some BadLine

-- of the words behind HOUSE: they are the house's name alone
abbrev pub name_cause : List (List ℕ) → Option Cause
name_cause (name ∷ []) = unless (is_firm_text name) BadName
name_cause _ = Some BadLine

-- of line 2, which may be missing
abbrev pub house_cause : Option (List (List ℕ)) → Option Cause
house_cause None = Some NoHouse
house_cause (Some []) = Some NoHouse
house_cause (Some (w ∷ rest)) =
    first (unless (bytes_eq w (codes "HOUSE")) NoHouse ∷ name_cause rest ∷ [])

-- of line 1, which may be missing
abbrev pub version_cause : Option (List ℕ) → Option Cause
version_cause None = Some BadVersion
version_cause (Some line) = unless (is_fixed line || is_opening line) BadVersion
