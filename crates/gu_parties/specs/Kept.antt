-- What a house table keeps.
use Rattle.gu_base.specs.House.{House, HasLawfulOpening}
use Rattle.gu_parties.specs.Table.{opened}
use Rattle.gu_parties.specs.declared.house.House.TheInside.{Inside}

-- the table that a contract sees
abbrev pub table : Inside → House
table t = record {
  house = t.house;
  firms = t.firms.keys;
  accounts = t.accounts.keys;
  instruments = t.instruments.keys;
  agreements = t.agreements.entries;
  opening = t.opening.entries;
}

-- the agreements could be made by calls, each of them, whether they are fixed or those of the
-- opening
pub record HasLawfulAgreements (t : House) : Type 0 where
  pub fixed : HasLawfulOpening (opened t)
  pub made : HasLawfulOpening t
