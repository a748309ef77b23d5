-- The rule of the two words that count the records and the durable ones, and what a step tells.
use Rattle.std.specs.Prelude.{◌≡◌, ◌≤◌, ℕ, true, false, List, [], ◌∷◌, ◌++◌, length}
use mathlib.Core.Option.{Option, some, none}
use lib.ListN.{get_elem?}
use Rattle.atomic_table.specs.Table.{State, Me, Step}
use Rattle.atomic_table.specs.Seated.{TableId}
use Rattle.gu_base.specs.Limits.{most_entries}
use Rattle.gu_base.specs.declared.entry.Entry.{Entry}
use Rattle.gu_desk.specs.Begins.{BeginsWith}
use Rattle.gu_desk.specs.declared.count.PassView.{PassView}

-- a pass of this table, which has the two words
abbrev pub IsOf : TableId → TableId → Type 0
IsOf table pass = (pass ≡ table) × (table.words ≡ 2)

-- the first pass, the book's and the journal's in one, which has seen this history; nothing is
-- durable
abbrev pub of_opening : List Entry → PassView
of_opening h = record { seen = h; laid_in = []; kept = []; is_books = true; is_journals = true }

-- the book's pass, which has seen this history
abbrev pub of_book : List Entry → PassView
of_book h = record { seen = h; laid_in = []; kept = []; is_books = true; is_journals = false }

-- the journal's pass, which has seen this history, and knows that this beginning of it is durable
abbrev pub of_journal : List Entry → List Entry → PassView
of_journal h d = record { seen = h; laid_in = []; kept = d; is_books = false; is_journals = true }

-- a caller's pass, which has seen this history
abbrev pub of_caller : List Entry → PassView
of_caller h = record { seen = h; laid_in = []; kept = []; is_books = false; is_journals = false }

-- what a caller's pass is when it is split off another: it has seen the same
abbrev pub beside : PassView → PassView
beside v =
    record { seen = v.seen; laid_in = []; kept = v.kept; is_books = false; is_journals = false }

-- what the first pass is once the journal's is split off it
abbrev pub without_journal : PassView → PassView
without_journal v = of_book v.seen

-- what the journal's pass is when it is split off the first
abbrev pub journal_of : PassView → PassView
journal_of v = of_journal v.seen v.kept

-- a pass of the same kind, the book's, the journal's or a caller's, that knows this
abbrev pub of_kind : PassView → List Entry → List Entry → List Entry → PassView
of_kind v h laid d =
    record {
      seen = h;
      laid_in = laid;
      kept = d;
      is_books = v.is_books;
      is_journals = v.is_journals;
    }

-- a pass into which a caller's was laid: beside its own history it now has the one that the
-- caller's had seen
abbrev pub with_laid_in : PassView → PassView → PassView
with_laid_in v w = of_kind v v.seen w.seen v.kept

-- a pass that has seen what another had, which was laid into it
abbrev pub with_seen_of : PassView → PassView → PassView
with_seen_of v w = of_kind v w.seen v.laid_in v.kept

-- a pass that knows that this beginning of the history is durable
abbrev pub with_kept : List Entry → PassView → PassView
with_kept d v = of_kind v v.seen v.laid_in d

-- the journal's pass into which a caller's was laid: beside what it knows to be durable it now has
-- what the caller's knew to be
abbrev pub with_kept_laid_in : PassView → PassView → PassView
with_kept_laid_in v w = of_kind v v.seen w.kept v.kept

-- a pass at one place, where the book's is at `place` and the journal's at `journal`. The book's
-- has seen all of the history h, the journal's knows of all of d that is durable; each has seen a
-- beginning of h, and knows of one of d. What was laid into a pass begins h, and d where the pass
-- is the journal's
pub record Fits (place journal : ℕ) (h d : List Entry) (at : ℕ) (v : PassView) : Type 0 where
  pub books : v.is_books ≡ true → (at ≡ place) × (v.seen ≡ h)
  pub journals : v.is_journals ≡ true
      → (at ≡ journal) × (v.kept ≡ d) × BeginsWith d v.laid_in
  pub seen : BeginsWith h v.seen
  pub laid_in : BeginsWith h v.laid_in
  pub kept : BeginsWith d v.kept

-- the rule: there is one history, as long as a history may be, and it begins with what is durable
-- of it; the words are their lengths, and each pass fits. That one pass is the book's and one the
-- journal's, the rule leaves to the types `Till` and `JournalSeat`, which carry them
pub record IsCounted (s : State Entry PassView) : Type 0 where
  pub place : ℕ
  pub journal : ℕ
  pub history : List Entry
  pub durable : List Entry
  pub words : s.words ≡ length history ∷ length durable ∷ []
  pub begins : BeginsWith history durable
  pub few : length history ≤ most_entries
  pub fits : (at : ℕ) (v : PassView) → get_elem? s.views at ≡ some v
      → Fits place journal history durable at v

-- a look: the word is the length of what the pass has seen. What was laid into it begins that, and
-- is laid aside
abbrev pub Looks : Step Entry → Me Entry PassView → ℕ → Me Entry PassView → Type 0
Looks s before found after =
    (found ≡ length before.0.seen) × BeginsWith before.0.seen before.0.laid_in
    × (after ≡ (of_kind before.0 before.0.seen [] before.0.kept, before.1))

-- a pass behind whose history a record was put
abbrev pub with_record : Option Entry → PassView → PassView
with_record none v = v
with_record (some e) v = of_kind v (v.seen ++ e ∷ []) v.laid_in v.kept

-- a publication: the record that is told of stands behind what the pass has seen
abbrev pub Publishes : Step Entry → Me Entry PassView → ℕ → Me Entry PassView → Type 0
Publishes s before found after = after ≡ (with_record s.said before.0, before.1)

-- a settlement: the word is the length of what is durable, and the pass now knows of it. Where it
-- isn't below the length of what the pass has seen, all that the pass has seen is durable
abbrev pub Settles : Step Entry → Me Entry PassView → ℕ → Me Entry PassView → Type 0
Settles s before found after = (found ≡ length after.0.kept) × (found ≤ most_entries)
    × BeginsWith after.0.kept before.0.kept
    × (length before.0.seen ≤ found → BeginsWith after.0.kept before.0.seen)
    × (after ≡ (with_kept after.0.kept before.0, before.1))

-- a confirmation: all that the journal's pass has seen is durable
abbrev pub Confirms : Step Entry → Me Entry PassView → ℕ → Me Entry PassView → Type 0
Confirms s before found after = after ≡ (with_kept before.0.seen before.0, before.1)

-- a comparison: what was laid into the journal's pass begins what it knows to be durable, and is
-- laid aside
abbrev pub Compares : Step Entry → Me Entry PassView → ℕ → Me Entry PassView → Type 0
Compares s before found after = BeginsWith before.0.kept before.0.laid_in
    × (after ≡ (of_kind before.0 before.0.seen [] before.0.kept, before.1))

-- an ordering: where what was laid into a caller's pass is no longer than what it has seen, it
-- begins that; it is laid aside
abbrev pub Orders : Step Entry → Me Entry PassView → ℕ → Me Entry PassView → Type 0
Orders s before found after = (length before.0.laid_in ≤ length before.0.seen
    → BeginsWith before.0.seen before.0.laid_in)
    × (after ≡ (of_kind before.0 before.0.seen [] before.0.kept, before.1))
