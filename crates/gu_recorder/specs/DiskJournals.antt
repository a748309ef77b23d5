-- What a journal over a disk says of its house is what a crash leaves of it, and what other
-- machines have, if they are to have it.
use Rattle.std.specs.Prelude.{ℕ, List, [], Option, length}
use Rattle.std.proofs.Common.{sym}
use Rattle.std.proofs.lemmas.List.{append-nil}
use Rattle.gu_base.specs.House.{House}
use Rattle.gu_base.specs.declared.entry.Entry.{Entry}
use Rattle.gu_desk.specs.Begins.{BeginsWith}
use Rattle.gu_desk.proofs.Moves.{begins_with_all}
use Rattle.gu_journal.specs.Counting.{Stands}
use Rattle.gu_journal.specs.Keeping.{disk_of, Keeps}
use Rattle.gu_journal.specs.declared.journal.Journal.{Journal}
use Rattle.gu_journal.proofs.Kept.{kept_stands}
use Rattle.gu_recorder.specs.Replicas.{HasAnswered, has_fewer, begun_count}
use Rattle.gu_recorder.specs.declared.replica.Replica.{Replica}

-- in the file a journal of this house file stands whose history begins with this one
abbrev pub HasStanding : House → List ℕ → List ℕ → List Entry → Type 0
HasStanding t pin file h = (k : List Entry) × Stands t pin file k × BeginsWith k h

-- the journal says this history, and other machines have as many entries
pub record IsSaid {D : Type 0} (seen : D → List ℕ) (may_leave : D → List ℕ → Type 0)
    (t : House) (pin : List ℕ) (h : List Entry) (journal : Journal D) (replica : Option Replica)
    : Type 0 where
  pub answered : HasAnswered replica (length h)
  pub kept : Keeps seen may_leave t pin h journal

-- whatever a crash leaves of the disk has a journal that begins with this history, and other
-- machines have as many entries
pub record IsKept {D : Type 0} (may_leave : D → List ℕ → Type 0)
    (t : House) (pin : List ℕ) (h : List Entry) (disk : D) (replica : Option Replica) : Type 0 where
  pub answered : HasAnswered replica (length h)
  pub left : (c : List ℕ) → may_leave disk c → HasStanding t pin c h

-- a journal that stands begins with its own history
pub stands_itself : (t : House) (pin file : List ℕ) (h : List Entry) → Stands t pin file h
    → HasStanding t pin file h
stands_itself t pin file h stands = (h, stands, record { rest = []; is = sym (append-nil h) })

-- what a journal at rest says is kept
pub said_is_kept : {D : Type 0} (seen : D → List ℕ) (may_leave : D → List ℕ → Type 0)
    (t : House) (pin : List ℕ) (h : List Entry) (journal : Journal D) (replica : Option Replica)
    → IsSaid seen may_leave t pin h journal replica
    → IsKept may_leave t pin h (disk_of journal) replica
said_is_kept seen may_leave t pin h journal replica said = record {
  answered = said.answered;
  left = λ c left.
      stands_itself t pin c h (kept_stands seen may_leave t pin h journal said.kept c left);
}

-- and with a history each beginning of it
pub begun_is_kept : {D : Type 0} (may_leave : D → List ℕ → Type 0) (t : House) (pin : List ℕ)
    (h begun : List Entry) (disk : D) (replica : Option Replica)
    → BeginsWith h begun → IsKept may_leave t pin h disk replica
    → IsKept may_leave t pin begun disk replica
begun_is_kept may_leave t pin h begun disk replica longer kept = record {
  answered = has_fewer replica (length begun) (length h) (begun_count h begun longer) kept.answered;
  left = λ c left.
      let there = kept.left c left in
      (there.0, there.1, begins_with_all there.0 h begun there.2 longer);
}
