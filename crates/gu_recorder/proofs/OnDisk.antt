-- What a journal over a disk keeps when a group is put behind it, whatever came of it.
use Rattle.std.proofs.Common.{◌≡◌, refl, ℕ, Bool, IsTrue, List, ◌++◌, Option, length, sym, subst}
use Rattle.gu_base.specs.House.{House}
use Rattle.gu_base.specs.Runs.{IsRunFrom}
use Rattle.gu_base.specs.declared.entry.Entry.{Entry}
use Rattle.gu_desk.specs.Begins.{BeginsWith}
use Rattle.gu_desk.proofs.Moves.{begins_with_all}
use Rattle.gu_journal.specs.Counting.{Stands, Recovers}
use Rattle.gu_journal.specs.Keeping.{disk_of, Keeps}
use Rattle.gu_journal.specs.declared.damage.HouseDigest.{HouseDigest}
use Rattle.gu_journal.specs.declared.group.Room.{Room}
use Rattle.gu_journal.specs.declared.journal.Journal.{Journal}
use Rattle.gu_recorder.specs.DiskJournals.{HasStanding, IsSaid, IsKept, stands_itself}
use Rattle.gu_recorder.specs.Replicas.{HasAnswered, has_fewer, begun_count}
use Rattle.gu_recorder.specs.declared.replica.Replica.{Replica}

module _ {D : Type 0} (seen : D → List ℕ) (may_leave : D → List ℕ → Type 0) (is_clean : D → Bool)
    (t : House) (pin : List ℕ) (h es : List Entry) (old new : Journal D) (before after : Option Replica)
    (clean : is_clean (disk_of new) ≡ is_clean (disk_of old))
    (crash : (t : House) (pin : List ℕ) (h : List Entry) (c : List ℕ)
    → Keeps seen may_leave t pin h old → may_leave (disk_of new) c → Stands t pin c h)
    (said : IsTrue (is_clean (disk_of old)) → IsSaid seen may_leave t pin h old before)
    (right : IsTrue (is_clean (disk_of new))) where
  was : IsSaid seen may_leave t pin h old before
  was = said (subst (λ (b : Bool). IsTrue b) clean right)

  left_then : (c : List ℕ) → may_leave (disk_of new) c → HasStanding t pin c h
  left_then c left = stands_itself t pin c h (crash t pin h c was.kept left)

  -- whatever came of a group, the history from before is kept, where what was answered is answered still
  pub keeps_before : ((n : ℕ) → HasAnswered before n → HasAnswered after n)
      → IsKept may_leave t pin h (disk_of new) after
  keeps_before still = record { answered = still (length h) was.answered; left = left_then }

  -- the answer is of as many entries as the journal says
  has_all : (count : ℕ) → ((t : House) (pin : List ℕ) (h : List Entry)
      → Keeps seen may_leave t pin h new → count ≡ length h)
      → Keeps seen may_leave t pin (h ++ es) new → HasAnswered after count → HasAnswered after (length (h ++ es))
  has_all count counts kept answered =
      subst (λ (n : ℕ). HasAnswered after n) (counts t pin (h ++ es) kept) answered

  module _ (count : ℕ) (counts : (t : House) (pin : List ℕ) (h : List Entry)
      → Keeps seen may_leave t pin h new → count ≡ length h)
      (kept : (t : House) (pin : List ℕ) (h : List Entry) → Keeps seen may_leave t pin h old
      → IsRunFrom t h (h ++ es) → Keeps seen may_leave t pin (h ++ es) new)
      (run : IsRunFrom t h (h ++ es)) (answered : HasAnswered after count) where
    all_kept : Keeps seen may_leave t pin (h ++ es) new
    all_kept = kept t pin h was.kept run

    -- once it is answered the new entries are said
    pub says_answered : IsSaid seen may_leave t pin (h ++ es) new after
    says_answered = record { answered = has_all count counts all_kept answered; kept = all_kept }

    -- and the history from before is kept
    pub keeps_answered : IsKept may_leave t pin h (disk_of new) after
    keeps_answered = record {
      answered = has_fewer after (length h) (length (h ++ es))
          (begun_count (h ++ es) h (record { rest = es; is = refl })) says_answered.answered;
      left = left_then;
    }

module _ {D : Type 0} (may_leave : D → List ℕ → Type 0) (t : House) (pin : List ℕ) (h : List Entry)
    (journal : Journal D) (before after : Option Replica)
    (still : (n : ℕ) → HasAnswered before n → HasAnswered after n) where
  -- what is kept is kept still, where what was answered is answered still
  pub keeps_still : IsKept may_leave t pin h (disk_of journal) before
      → IsKept may_leave t pin h (disk_of journal) after
  keeps_still kept = record { answered = still (length h) kept.answered; left = kept.left }

-- and what is said
pub says_still : {D : Type 0} (seen : D → List ℕ) (may_leave : D → List ℕ → Type 0) (t : House) (pin : List ℕ)
    (h : List Entry) (journal : Journal D) (before after : Option Replica)
    → ((n : ℕ) → HasAnswered before n → HasAnswered after n)
    → IsSaid seen may_leave t pin h journal before → IsSaid seen may_leave t pin h journal after
says_still seen may_leave t pin h journal before after still said =
    record { answered = still (length h) said.answered; kept = said.kept }

-- a journal of which nothing but the room has changed takes further entries, as it did
pub takes_refused : {D : Type 0} (is_usable : D → Bool) (old new : Journal D) (r : Room) → new ≡ record old { room = r }
    → IsTrue (is_usable (disk_of old)) → IsTrue (is_usable (disk_of new))
takes_refused {D} is_usable old new r same takes =
    subst (λ (j : Journal D). IsTrue (is_usable (disk_of j))) (sym same) takes

-- and says what it said
pub says_refused : {D : Type 0} (seen : D → List ℕ) (may_leave : D → List ℕ → Type 0) (t : House) (pin : List ℕ)
    (h : List Entry) (old new : Journal D) (r : Room) (replica : Option Replica) → new ≡ record old { room = r }
    → IsSaid seen may_leave t pin h old replica → IsSaid seen may_leave t pin h new replica
says_refused {D} seen may_leave t pin h old new r replica same said =
    let k = said.kept in
    let kept : Keeps seen may_leave t pin h (record old { room = r }) = record {
      bytes = k.bytes;
      file = k.file;
      is_journal = k.is_journal;
      house = k.house;
      next = k.next;
      hashed = k.hashed;
    } in
    record {
      answered = said.answered;
      kept = subst (λ (j : Journal D). Keeps seen may_leave t pin h j) (sym same) kept;
    }

-- a journal that was recovered, beside a copy of its house
pub filed_says : {D : Type 0} (seen : D → List ℕ) (may_leave : D → List ℕ → Type 0) (is_clean : D → Bool)
    (t u : House) (pin other : HouseDigest) (h : List Entry) (j k : Journal D) → k ≡ j → u ≡ t → other ≡ pin
    → (IsTrue (is_clean (disk_of j)) → Keeps seen may_leave t pin.bytes h j)
    → IsTrue (is_clean (disk_of k)) → Keeps seen may_leave u other.bytes h k
filed_says {D} seen may_leave is_clean t u pin other h j k same copied pinned keeps right =
    let at = keeps (subst (λ (x : Journal D). IsTrue (is_clean (disk_of x))) same right) in
    let here = subst (λ (x : House). Keeps seen may_leave x pin.bytes h j) (sym copied) at in
    let of = subst (λ (x : HouseDigest). Keeps seen may_leave u x.bytes h j) (sym pinned) here in
    subst (λ (x : Journal D). Keeps seen may_leave u other.bytes h x) (sym same) of

-- what was recovered is said, once other machines have it
pub replicated_says : {D : Type 0} (seen : D → List ℕ) (may_leave : D → List ℕ → Type 0) (is_clean : D → Bool)
    (t u : House) (pin other : HouseDigest) (h : List Entry) (j k : Journal D) (r : Option Replica)
    → k ≡ j → u ≡ t → other ≡ pin
    → (IsTrue (is_clean (disk_of j)) → Keeps seen may_leave t pin.bytes h j)
    → ((t : House) (pin : List ℕ) (h : List Entry) → Keeps seen may_leave t pin h k → HasAnswered r (length h))
    → IsTrue (is_clean (disk_of k)) → IsSaid seen may_leave u other.bytes h k r
replicated_says seen may_leave is_clean t u pin other h j k r same copied pinned says answered right =
    let here = filed_says seen may_leave is_clean t u pin other h j k same copied pinned says right in
    record { answered = answered u other.bytes h here; kept = here }

-- a book that a start answers of a file begins with what was told of a house by another name
pub comes_back : (t u : House) (pin by file : List ℕ) (h told : List Entry) → t ≡ u → Recovers t pin file h
    → HasStanding u by file told → BeginsWith h told
comes_back t u pin by file h told same book kept =
    let there = book.alone by kept.0 (subst (λ (x : House). Stands x by file kept.0) (sym same) kept.1) in
    let longer = book.longest kept.0 there in
    begins_with_all h kept.0 told (record { rest = longer.0; is = longer.1 }) kept.2
