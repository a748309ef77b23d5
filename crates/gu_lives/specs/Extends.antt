-- House tables that have all that another has, and may have more.
use Rattle.std.specs.Prelude.{◌≡◌, ℕ, Bool, true, false, not, ◌&&◌, ◌||◌, ◌==◌, List, Option, Some}
use Rattle.std.specs.Prelude.{None, bytes_eq}
use Rattle.std.specs.List.{list_all}
use Rattle.std.specs.Cmp.Lexicographic.{pointwise}
use Rattle.gu_base.specs.House.{House, knows_firm, knows_account, knows_instrument, agreement}
use Rattle.gu_base.specs.House.{same_pair}
use Rattle.gu_base.specs.declared.house.Pair.{Pair}
use Rattle.gu_base.specs.declared.house.Agreement.{Agreement}
use Rattle.gu_base.specs.Fees.{paid_by, received_by}
use Rattle.gu_base.specs.Terms.{terms_of, limit_of}
use Rattle.gu_base.specs.declared.entry.Record.{Record}

-- the second table has the clearing house of the first, each of its firms, accounts and
-- instruments, and between two firms of the first table the same fixed terms, or none; of a firm
-- that the first one lacks it may have any
pub record HasMore (t u : House) : Type 0 where
  pub house : u.house ≡ t.house
  pub firms : (firm : List ℕ) → knows_firm t firm ≡ true → knows_firm u firm ≡ true
  pub accounts : (firm account : List ℕ) → knows_account t firm account ≡ true
      → knows_account u firm account ≡ true
  pub instruments : (instrument : List ℕ) → knows_instrument t instrument ≡ true
      → knows_instrument u instrument ≡ true
  pub terms : (giver taker : List ℕ) → knows_firm t giver ≡ true → knows_firm t taker ≡ true
      → agreement u giver taker ≡ agreement t giver taker

-- and the same opening
pub record Extends (t u : House) : Type 0 where
  pub more : HasMore t u
  pub opening : u.opening ≡ t.opening

-- what a list of changes tells under two tables: each firm, those too that the first one lacks,
-- pays and receives the same, and two firms of the first have the same terms and limit. Rows,
-- positions and lots used don't ask the table
pub record TellsTheSame (t u : House) (l : List Record) : Type 0 where
  pub paid : (firm : List ℕ) → paid_by u l firm ≡ paid_by t l firm
  pub received : (firm : List ℕ) → received_by u l firm ≡ received_by t l firm
  pub terms : (giver taker : List ℕ) → knows_firm t giver ≡ true → knows_firm t taker ≡ true
      → terms_of u l giver taker ≡ terms_of t l giver taker
  pub limits : (giver taker : List ℕ) → knows_firm t giver ≡ true → knows_firm t taker ≡ true
      → limit_of u l giver taker ≡ limit_of t l giver taker

-- ---- a test of it

abbrev pub same_terms : Option Agreement → Option Agreement → Bool
same_terms None None = true
same_terms (Some a) (Some b) = (a.rate == b.rate) && (a.limit == b.limit)
same_terms _ _ = false

-- the same pair with the same terms
abbrev pub same_made : Pair × Agreement → Pair × Agreement → Bool
same_made a b = same_pair a.0 b.0 && same_terms (Some a.1) (Some b.1)

-- where both are firms of the first table, the two have the same fixed terms of them
abbrev pub keeps_terms : House → House → Pair × Agreement → Bool
keeps_terms t u e =
    not (knows_firm t e.0.giver && knows_firm t e.0.taker)
    || same_terms (agreement u e.0.giver e.0.taker) (agreement t e.0.giver e.0.taker)

-- the second table extends the first: line by line of the two
abbrev pub extends : House → House → Bool
extends t u =
    bytes_eq u.house t.house && pointwise same_made u.opening t.opening
    && list_all (knows_firm u) t.firms
    && list_all (λ a. knows_account u a.firm a.name) t.accounts
    && list_all (knows_instrument u) t.instruments
    && list_all (keeps_terms t u) t.agreements && list_all (keeps_terms t u) u.agreements
