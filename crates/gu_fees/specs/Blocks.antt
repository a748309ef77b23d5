-- What the deeds of a giver and a taker come to, block by block.
use Rattle.std.specs.Prelude.{◌≡◌, ℕ, ◌+◌, ◌-◌, ◌<◌, ◌≤◌, List, [], ◌∷◌, length, take, drop, Option}
use Rattle.std.specs.Prelude.{Some, is_none, Result, Ok, Err, Bool, false, ◌||◌}
use Rattle.std.specs.List.{fold}
use Rattle.gu_base.specs.Dealt.{first_over}
use Rattle.gu_base.specs.Terms.{made_by_deed, raised_by_deed, used_by_deed}
use Rattle.gu_base.specs.declared.house.Deed.{Deed}
use Rattle.gu_base.specs.declared.house.Dealing.{Dealing}
use Rattle.gu_sums.specs.Filed.{kept_in}
use Rattle.gu_sums.specs.declared.filing.Filed.{Filed}
use Rattle.gu_fees.specs.Pairs.{dealings_of}
use Rattle.gu_fees.specs.declared.blocks.Block.{Block}

-- what is dealt by deeds that are filed
abbrev pub deeds_in : List (Filed Deed) → List Dealing
deeds_in fs = dealings_of (kept_in fs)

-- no deeds need no room, and leave none
abbrev pub no_block : Block
no_block = record { need = 0; left = 0; has_under_terms = false }

-- a Raise or a Claim
abbrev pub is_under_terms : Deed → Bool
is_under_terms d = is_none (made_by_deed d)

-- with one deed more: what it uses is taken from what is left, and then from before
abbrev pub block_with : Block → Deed → Block
block_with b d = record {
  need = b.need + (used_by_deed d - (b.left + raised_by_deed d));
  left = b.left + raised_by_deed d - used_by_deed d;
  has_under_terms = b.has_under_terms || is_under_terms d;
}

-- how far above what is used the limit must be before these dealings, so that none passes it, how
-- far above it it is behind them then, and whether a Raise or a Claim is among them
abbrev pub block_of : List Dealing → Block
block_of ds = fold (λ b d. block_with b d.deed) no_block ds

-- the blocks of what is filed: each of the next 128; behind the last stand fewer
abbrev pub AreBlocks : List Block → List (Filed Deed) → Type 0
AreBlocks [] fs = length fs < 128
AreBlocks (b ∷ bs) fs = (128 ≤ length fs) × (b ≡ block_of (deeds_in (take 128 fs)))
    × AreBlocks bs (drop 128 fs)

-- what comes of a walk, where others stand behind: the room that it left goes on, or it ended
abbrev pub goes_on : Result ℕ ℕ → List Dealing → Option ℕ
goes_on (Ok room) later = first_over room 0 later
goes_on (Err n) later = Some n
