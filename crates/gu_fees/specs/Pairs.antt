-- The terms of a giver and a taker, as they are kept.
use Rattle.std.specs.Prelude.{◌≡◌, ℕ, ◌+◌, ◌<◌, ◌≤◌, ◌^◌, List, find, map, Option, IfSome}
use Rattle.std.specs.Prelude.{option_map, option_and_then, ◌==◌}
use Rattle.std.specs.List.{All}
use Rattle.gu_base.specs.Limits.{highest_limit}
use Rattle.gu_base.specs.Terms.{made_in, raised_under, used_under}
use Rattle.gu_base.specs.Dealt.{first_under_deed}
use Rattle.gu_base.specs.declared.house.Agreement.{Agreement}
use Rattle.gu_base.specs.declared.house.Deed.{Deed}
use Rattle.gu_base.specs.declared.house.Deed.TheVariants.{Makes, Raises, Uses}
use Rattle.gu_base.specs.declared.house.Dealing.{Dealing}

-- the terms of the house table, what is dealt in the order of the numbers, how many more entries
-- take no memory, and the last number of an entry that was filed
pub record PairView : Type 0 where
  pub file : Option Agreement
  pub dealings : List Dealing
  pub room : ℕ
  pub last : ℕ

-- what is dealt by deeds with their numbers
abbrev pub dealings_of : List (ℕ × Deed) → List Dealing
dealings_of kept = map (λ k. record { number = k.0; deed = k.1 }) kept

-- terms have a limit that terms may have
abbrev pub HasLowLimit : Deed → Type 0
HasLowLimit (Makes a) = a.limit ≤ highest_limit
HasLowLimit _ = Unit {0}

-- the limits are what limits may be, and a limit with all raises, and what is used, are numbers of
-- 64 bits
pub record IsSmall (file : Option Agreement) (ds : List Dealing) : Type 0 where
  pub file_low : IfSome file (λ a. a.limit ≤ highest_limit)
  pub made_low : All (λ d. HasLowLimit d.deed) ds
  pub raised : highest_limit + raised_under ds < 2 ^ 64
  pub used : used_under ds < 2 ^ 64

-- the same holds with this deed too, where so much was raised and so much used
abbrev pub HasRoomOn : ℕ → ℕ → Deed → Type 0
HasRoomOn raised used (Makes a) = a.limit ≤ highest_limit
HasRoomOn raised used (Raises lots) = highest_limit + raised + lots < 2 ^ 64
HasRoomOn raised used (Uses lots) = used + lots < 2 ^ 64

abbrev pub HasRoomFor : List Dealing → Deed → Type 0
HasRoomFor ds d = HasRoomOn (raised_under ds) (used_under ds) d

-- the terms that an Agree made, and the sums, are those of what is dealt
pub record IsKept (file made : Option Agreement) (ds : List Dealing) (raised used : ℕ) : Type 0
  where
    pub made_is : made ≡ made_in ds
    pub raised_is : raised ≡ raised_under ds
    pub used_is : used ≡ used_under ds
    pub small : IsSmall file ds

-- the deed of this number
abbrev pub deed_at : List Dealing → ℕ → Option Deed
deed_at ds k = option_map (λ d. d.deed) (find (λ d. d.number == k) ds)

-- what stands on the entry of this number, among these
abbrev pub standing_under : Option Agreement → List Dealing → ℕ → Option ℕ
standing_under file ds k = option_and_then (first_under_deed file ds k) (deed_at ds k)
