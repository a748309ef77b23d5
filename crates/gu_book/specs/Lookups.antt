-- What is found of a history without going over it.
use Rattle.std.specs.Prelude.{◌≡◌, ◌<◌, ℕ, length, List, Option, Some, None, find, option_map}
use Rattle.std.specs.Prelude.{slice_index_or, if◌then◌else◌}
use Rattle.gu_base.specs.Numbers.{is_number}
use Rattle.gu_base.specs.History.{records}
use Rattle.gu_base.specs.Answers.{Call, is_same_id, reversal_of}
use Rattle.gu_base.specs.declared.entry.Entry.{Entry}
use Rattle.gu_ids.specs.Newest.{newest_of}
use Rattle.gu_book.specs.declared.lookups.Reversals.{Reversals}

-- an entry's number; 0 is none
abbrev pub number_or_none : ℕ → Option ℕ
number_or_none n = if is_number n then Some n else None

-- the number that is kept at an entry
abbrev pub reversal_in : Reversals → ℕ → Option ℕ
reversal_in reversals entry = number_or_none (slice_index_or reversals.numbers.items entry 0)

-- there is room for a number at an entry
abbrev pub HasRoomAt : Reversals → ℕ → Type 0
HasRoomAt reversals entry = entry < length reversals.numbers.items

-- the number of the first entry of the call's firm and id
abbrev pub number_of : List Entry → Call → Option ℕ
number_of h c = option_map (λ r. r.number) (find (is_same_id c) (records h))

-- the newest entry of each firm and id is the first
pub record IsNewestFirst (h : List Entry) : Type 0 where
  pub numbers : (c : Call) → newest_of h c.firm c.id ≡ number_of h c

-- at each entry, the number of the first Reverse in the history that names it
pub record AreReversalsOf (reversals : Reversals) (h : List Entry) : Type 0 where
  pub numbers : (n : ℕ) → reversal_in reversals n ≡ option_map (λ r. r.number) (reversal_of h n)

pub record AreLookupsOf (rs : Reversals) (h : List Entry) : Type 0 where
  pub ids : IsNewestFirst h
  pub reversals : AreReversalsOf rs h
