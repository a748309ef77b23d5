-- The terms that a book keeps, and what is dealt under them.
use Rattle.std.specs.Prelude.{◌≡◌, ℕ, Option, None}
use Rattle.std.specs.Map.{lookup}
use Rattle.gu_base.specs.declared.house.Deed.TheVariants.{Uses}
use Rattle.gu_base.specs.declared.node.Kind.{Kind}
use Rattle.gu_base.specs.declared.node.Kind.TheVariants.{Given}
use Rattle.gu_fees.specs.Rows.{is_pair}
use Rattle.gu_fees.specs.Terms.{TermsView, CanPut, IsPut, IsReady}

-- where the giver and the taker of a node stand, if it is given
abbrev pub place_of_kind : TermsView → Kind → Option ℕ
place_of_kind v (Given _ giver taker) = lookup (is_pair giver taker) v.places
place_of_kind v _ = None

-- there is room for an entry of the giver and the taker of a node, if it is given
abbrev pub HasRoomForClaim : TermsView → Kind → Type 0
HasRoomForClaim v (Given _ giver taker) = IsReady v giver taker
HasRoomForClaim v _ = Unit {0}

-- the claim of this number of so many lots may be put to their terms
abbrev pub CanClaim : TermsView → ℕ → ℕ → Kind → Type 0
CanClaim v number lots (Given _ giver taker) =
    CanPut v giver taker (record { number = number; deed = Uses lots })
CanClaim v number lots _ = Unit {0}

-- and was put there
abbrev pub IsClaimed : TermsView → TermsView → ℕ → ℕ → Kind → Type 0
IsClaimed old new number lots (Given _ giver taker) =
    IsPut old new giver taker (record { number = number; deed = Uses lots })
IsClaimed old new number lots _ = new ≡ old
