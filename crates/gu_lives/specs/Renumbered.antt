-- A list of changes with other numbers, and the history that has its changes alone.
use Rattle.std.specs.Prelude.{◌≡◌, ℕ, ◌+◌, ◌≤◌, true, ◌==◌, if◌then◌else◌, List, [], ◌∷◌, ◌++◌, map}
use Rattle.std.specs.Prelude.{length, find, None, option_map}
use Rattle.std.specs.List.{All}
use Rattle.gu_base.specs.Limits.{most_entries}
use Rattle.gu_base.specs.Numbers.{EntryPart}
use Rattle.gu_base.specs.House.{House}
use Rattle.gu_base.specs.History.{is_change}
use Rattle.gu_base.specs.Positions.{position_of}
use Rattle.gu_base.specs.Fees.{paid_by, received_by}
use Rattle.gu_base.specs.Terms.{terms_of, limit_of, used_of}
use Rattle.gu_base.specs.Rows.{Row, rows_of}
use Rattle.gu_base.specs.Standing.{IsLegal}
use Rattle.gu_base.specs.Answers.{Call, is_same_id, status_of}
use Rattle.gu_tree.specs.Shown.{HasDistinctNumbers}
use Rattle.gu_base.specs.declared.command.Command.{Command}
use Rattle.gu_base.specs.declared.command.Command.TheVariants.{Trade, Split, Claim, Refuse, Cancel}
use Rattle.gu_base.specs.declared.command.Command.TheVariants.{Agree, Raise, Initiate, Decline}
use Rattle.gu_base.specs.declared.command.Command.TheVariants.{Reverse}
use Rattle.gu_base.specs.declared.command.Side.{Side}
use Rattle.gu_base.specs.declared.entry.Entry.{Entry}
use Rattle.gu_base.specs.declared.entry.Record.{Record}
use Rattle.gu_base.specs.declared.refusal.Refusal.{Refusal}
use Rattle.gu_base.specs.declared.refusal.Refusal.TheVariants.{AlreadySplit, AlreadyReversed}
use Rattle.gu_base.specs.declared.refusal.Refusal.TheVariants.{DuplicateId, StandsOn}

-- ---- other numbers

-- a name whose entry has another number
abbrev pub mapped_name : (ℕ → ℕ) → EntryPart → EntryPart
mapped_name f n = record { entry = f n.entry; part = n.part }

-- a command that names entries by their other numbers
abbrev pub mapped_command : (ℕ → ℕ) → Command → Command
mapped_command f (Trade firm account instrument side lots) = Trade firm account instrument side lots
mapped_command f (Split n parts) = Split (mapped_name f n) parts
mapped_command f (Claim n account) = Claim (mapped_name f n) account
mapped_command f (Refuse n) = Refuse (mapped_name f n)
mapped_command f (Cancel n) = Cancel (mapped_name f n)
mapped_command f (Agree giver taker rate limit) = Agree giver taker rate limit
mapped_command f (Raise giver lots) = Raise giver lots
mapped_command f (Initiate entry) = Initiate (f entry)
mapped_command f (Decline entry) = Decline (f entry)
mapped_command f (Reverse entry) = Reverse (f entry)

abbrev pub mapped_record : (ℕ → ℕ) → Record → Record
mapped_record f r = record {
  number = f r.number;
  firm = r.firm;
  id = r.id;
  command = mapped_command f r.command;
  status = r.status;
}

abbrev pub mapped : (ℕ → ℕ) → List Record → List Record
mapped f l = map (mapped_record f) l

-- a refusal that names entries by their other numbers
abbrev pub mapped_refusal : (ℕ → ℕ) → Refusal → Refusal
mapped_refusal f (AlreadySplit n) = AlreadySplit (f n)
mapped_refusal f (AlreadyReversed n) = AlreadyReversed (f n)
mapped_refusal f (DuplicateId n) = DuplicateId (f n)
mapped_refusal f (StandsOn n) = StandsOn (f n)
mapped_refusal f r = r

-- a row of a tree, and the numbers in it
abbrev pub mapped_row : (ℕ → ℕ) → Row → Row
mapped_row f x = record {
  depth = x.depth;
  name = mapped_name f x.name;
  lots = x.lots;
  place = x.place;
  state = x.state;
  taker = x.taker;
  decision = option_map f x.decision;
}

-- no two numbers become one
abbrev pub IsInjective : (ℕ → ℕ) → Type 0
IsInjective f = (a b : ℕ) → f a ≡ f b → a ≡ b

-- the same trees, but for the numbers, and the same lots, sums and terms
pub record IsSameMapped (t : House) (f : ℕ → ℕ) (l k : List Record) : Type 0 where
  pub trees : (trade : ℕ) → rows_of k (f trade) ≡ map (mapped_row f) (rows_of l trade)
  pub positions : (firm account instrument : List ℕ) (side : Side)
      → position_of k firm account instrument side ≡ position_of l firm account instrument side
  pub paid : (firm : List ℕ) → paid_by t k firm ≡ paid_by t l firm
  pub received : (firm : List ℕ) → received_by t k firm ≡ received_by t l firm
  pub used : (giver taker : List ℕ) → used_of k giver taker ≡ used_of l giver taker
  pub terms : (giver taker : List ℕ) → terms_of t k giver taker ≡ terms_of t l giver taker
  pub limits : (giver taker : List ℕ) → limit_of t k giver taker ≡ limit_of t l giver taker

-- ---- numbers from 1 on

-- how many changes stand before that of this number; a number that none has goes behind them all
abbrev pub place_in : List Record → ℕ → ℕ
place_in [] n = n
place_in (r ∷ l) n = if r.number == n then 0 else place_in l n + 1

-- the number that a change gets: its place in the list, counted from 1
abbrev pub new_number : List Record → ℕ → ℕ
new_number l n = place_in l n + 1

-- the list with its new numbers
abbrev pub renumbered : List Record → List Record
renumbered l = mapped (new_number l) l

-- an entry of a record, without its number
abbrev pub entry_in : Record → Entry
entry_in r = record { firm = r.firm; id = r.id; command = r.command; status = r.status }

-- the history of these changes alone
abbrev pub rolled : List Record → List Entry
rolled l = map entry_in (renumbered l)

-- the call that a record records
abbrev pub call_in : Record → Call
call_in r = record { firm = r.firm; id = r.id; command = r.command }

-- each has an id that none of its firm before it has
abbrev pub HasOwnIds : List Record → Type 0
HasOwnIds l = (before after : List Record) (r : Record) → l ≡ before ++ r ∷ after
    → find (is_same_id (call_in r)) before ≡ None

-- the list with other ids
abbrev pub with_id : (Record → List ℕ) → Record → Record
with_id g r = record {
  number = r.number;
  firm = r.firm;
  id = g r;
  command = r.command;
  status = r.status;
}

abbrev pub with_ids : (Record → List ℕ) → List Record → List Record
with_ids g l = map (with_id g) l

-- a list that can be a history of its own: legal changes with their numbers, no firm's id twice,
-- each with the status with which it was accepted, and no more than a book may have
pub record IsWhole (t : House) (l : List Record) : Type 0 where
  pub legal : IsLegal t l
  pub distinct : HasDistinctNumbers l
  pub changes : All (λ r. is_change r.command ≡ true) l
  pub statuses : All (λ r. r.status ≡ status_of r.firm r.command) l
  pub ids : HasOwnIds l
  pub few : length l ≤ most_entries
