-- What each line adds to a table, where it has no cause, and what a step that adds it answers.
use Rattle.std.specs.Prelude.{◌≡◌, ℕ, List, [], ◌∷◌, ◌++◌, Option, None, Some, Result, Ok, Err}
use Rattle.std.specs.Prelude.{IsOk, is_some, bytes_eq, codes, if◌then◌else◌}
use Rattle.std.specs.List.{cons_option}
use Rattle.gu_base.specs.House.{House, knows_firm, agreement}
use Rattle.gu_base.specs.declared.house.Agreement.{Agreement}
use Rattle.gu_parties.specs.Numbers.{rate_of, limit_of}
use Rattle.gu_parties.specs.Table.{terms_of}
use Rattle.gu_parties.specs.Causes.{unless, where_so, first, firm_cause, account_cause}
use Rattle.gu_parties.specs.Causes.{instrument_cause, agreement_cause}
use Rattle.gu_parties.specs.declared.fault.Cause.{Cause}
use Rattle.gu_parties.specs.declared.fault.Cause.TheVariants.{BadLine, OwnAgreement, UnknownName}
use Rattle.gu_parties.specs.declared.fault.Cause.TheVariants.{NamedTwice, Memory}

-- the table, unless there is a cause
abbrev pub unless_caused : Option Cause → House → Result House Cause
unless_caused None t = Ok t
unless_caused (Some c) t = Err c

-- the table of a house alone
abbrev pub house_alone : List ℕ → House
house_alone name = record {
  house = name;
  firms = [];
  accounts = [];
  instruments = [];
  agreements = [];
  opening = [];
}

-- with one more firm
abbrev pub add_firm : House → List ℕ → Result House Cause
add_firm t f = unless_caused (firm_cause t f) (record t { firms = t.firms ++ f ∷ [] })

-- with one more account
abbrev pub add_account : House → List ℕ → List ℕ → Result House Cause
add_account t f a =
    unless_caused (account_cause t f a)
    (record t { accounts = t.accounts ++ record { firm = f; name = a } ∷ [] })

-- with one more instrument
abbrev pub add_instrument : House → List ℕ → Result House Cause
add_instrument t i =
    unless_caused (instrument_cause t i) (record t { instruments = t.instruments ++ i ∷ [] })

-- of a giver and a taker that are names, with terms in range: the causes that are left
abbrev pub pair_cause : House → List ℕ → List ℕ → Option Cause
pair_cause t giver taker = first (
    where_so (bytes_eq giver taker) OwnAgreement
    ∷ unless (knows_firm t giver) UnknownName
    ∷ unless (knows_firm t taker) UnknownName
    ∷ where_so (is_some (agreement t giver taker)) NamedTwice ∷ [])

-- with one more agreement, whose names and terms are in order
abbrev pub add_terms : House → List ℕ → List ℕ → Agreement → Result House Cause
add_terms t giver taker terms =
    unless_caused (pair_cause t giver taker) (record t {
      agreements = t.agreements ++ (record { giver = giver; taker = taker }, terms) ∷ [];
    })

-- with one more agreement
abbrev pub add_agreement : House → (giver taker rate limit : List ℕ) → Result House Cause
add_agreement t giver taker rate limit =
    unless_caused (agreement_cause t giver taker rate limit) (record t {
      agreements =
          t.agreements ++ cons_option (terms_of giver taker (rate_of rate) (limit_of limit)) [];
    })

-- with what a line of these words adds
abbrev pub add_line : House → List (List ℕ) → Result House Cause
add_line t (kind ∷ name ∷ []) =
    if bytes_eq kind (codes "FIRM") then add_firm t name
    else if bytes_eq kind (codes "INSTRUMENT") then add_instrument t name
    else Err BadLine
add_line t (kind ∷ firm ∷ account ∷ []) =
    if bytes_eq kind (codes "ACCOUNT") then add_account t firm account else Err BadLine
add_line t (kind ∷ giver ∷ taker ∷ rate ∷ limit ∷ []) =
    if bytes_eq kind (codes "AGREEMENT") then add_agreement t giver taker rate limit
    else Err BadLine
add_line t _ = Err BadLine

-- what a step says that met this cause: the definition names it, or finds none where memory was
-- refused
abbrev pub Fails : Cause → Result House Cause → Type 0
Fails Memory read = IsOk read
Fails cause read = read ≡ Err cause

-- a step that changes the table does what the definition says
abbrev pub Does : {X : Type 0} → House → Result X Cause → Result House Cause → Type 0
Does new (Ok _) read = read ≡ Ok new
Does new (Err cause) read = Fails cause read
