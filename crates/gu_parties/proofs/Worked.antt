-- House files worked by hand: what the definition says of them, computed.
use Rattle.std.specs.Prelude.{◌≡◌, ℕ, List, [], ◌∷◌, Result, Ok, Err, codes, refl}
use Rattle.gu_parties.specs.Numbers.{number_upto}
use Rattle.gu_base.specs.House.{House}
use Rattle.gu_parties.specs.Words.{lines}
use Rattle.gu_parties.specs.HouseFile.{house_of_lines}
use Rattle.gu_parties.specs.declared.fault.Cause.{Cause}
use Rattle.gu_parties.specs.declared.fault.Cause.TheVariants.{BadVersion, NoHouse, BadLine, BadName, BadNumber}
use Rattle.gu_parties.specs.declared.fault.Cause.TheVariants.{OwnAgreement, UnknownName, NamedTwice}

-- what a house file says
abbrev house_of : List ℕ → Result House (ℕ × Cause)
house_of text = house_of_lines (lines text)

-- a house, a firm with an account, an instrument, and an agreement; the last line lacks its LF
lawful : house_of (codes "GIVEUP 1\nHOUSE HSE\nFIRM AAA\nACCOUNT AAA A1\nINSTRUMENT ESZ6\nAGREEMENT HSE AAA 125 500")
    ≡ Ok (record {
      house = codes "HSE";
      firms = codes "AAA" ∷ [];
      accounts = record { firm = codes "AAA"; name = codes "A1" } ∷ [];
      instruments = codes "ESZ6" ∷ [];
      agreements = (record { giver = codes "HSE"; taker = codes "AAA" }, record { rate = 125; limit = 500 }) ∷ [];
      opening = [];
    })
unfolding number_upto
lawful = refl

-- of version 2, the agreements are those of the opening
opens : house_of (codes "GIVEUP 2\nHOUSE HSE\nFIRM AAA\nAGREEMENT HSE AAA 125 500\nAGREEMENT AAA HSE 0 0\n")
    ≡ Ok (record {
      house = codes "HSE";
      firms = codes "AAA" ∷ [];
      accounts = [];
      instruments = [];
      agreements = [];
      opening = (record { giver = codes "HSE"; taker = codes "AAA" }, record { rate = 125; limit = 500 })
          ∷ (record { giver = codes "AAA"; taker = codes "HSE" }, record { rate = 0; limit = 0 }) ∷ [];
    })
unfolding number_upto
opens = refl

empty : house_of [] ≡ Err (1, BadVersion)
empty = refl

version : house_of (codes "GIVEUP 3") ≡ Err (1, BadVersion)
version = refl

no_house : house_of (codes "GIVEUP 1") ≡ Err (2, NoHouse)
no_house = refl

opens_no_house : house_of (codes "GIVEUP 2") ≡ Err (2, NoHouse)
opens_no_house = refl

other_word : house_of (codes "GIVEUP 1\nHOUSEX A") ≡ Err (2, NoHouse)
other_word = refl

unnamed : house_of (codes "GIVEUP 1\nHOUSE\n") ≡ Err (2, BadLine)
unnamed = refl

unknown : house_of (codes "GIVEUP 1\nHOUSE HSE\nACCOUNT AAA A1\n") ≡ Err (3, UnknownName)
unknown = refl

twice : house_of (codes "GIVEUP 1\nHOUSE HSE\nFIRM HSE\n") ≡ Err (3, NamedTwice)
twice = refl

opens_twice : house_of (codes "GIVEUP 2\nHOUSE HSE\nFIRM A\nAGREEMENT HSE A 1 1\nAGREEMENT HSE A 2 2\n")
    ≡ Err (5, NamedTwice)
unfolding number_upto
opens_twice = refl

own : house_of (codes "GIVEUP 1\nHOUSE HSE\nAGREEMENT HSE HSE 1 1\n") ≡ Err (3, OwnAgreement)
unfolding number_upto
own = refl

rate : house_of (codes "GIVEUP 1\nHOUSE HSE\nFIRM A\nAGREEMENT HSE A 100001 1\n") ≡ Err (4, BadNumber)
unfolding number_upto
rate = refl

-- an empty word counts, and so does CR
empty_name : house_of (codes "GIVEUP 1\nHOUSE HSE\nFIRM \n") ≡ Err (3, BadName)
empty_name = refl

empty_word : house_of (codes "GIVEUP 1\nHOUSE HSE\nFIRM  A\n") ≡ Err (3, BadLine)
empty_word = refl

carriage_return : house_of (codes "GIVEUP 1\nHOUSE HSE\nFIRM A\r\n") ≡ Err (3, BadName)
carriage_return = refl

-- the first line with a cause is named, whatever stands behind it
first_line : house_of (codes "GIVEUP 1\nHOUSE HSE\n\nFIRM HSE\n") ≡ Err (3, BadLine)
first_line = refl
