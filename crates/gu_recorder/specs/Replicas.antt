-- What was answered by the program that puts a journal on other machines.
use Rattle.std.specs.Prelude.{◌≡◌, ◌≤◌, ℕ, List, [], ◌∷◌, ◌++◌, Option, Some, None, codes, decimal}
use Rattle.std.specs.Prelude.{length}
use Rattle.std.proofs.Common.{◌∙◌, ap, sym, subst}
use Rattle.std.proofs.lemmas.List.{length-append}
use Rattle.std.proofs.Math.Nat.{le_trans, le-add_right}
use Rattle.gu_base.specs.declared.entry.Entry.{Entry}
use Rattle.gu_desk.specs.Begins.{BeginsWith}
use Rattle.gu_recorder.specs.declared.replica.Replica.{Replica}

-- the answer that other machines have so many entries: the number, and a line feed
abbrev pub answer_of : ℕ → List ℕ
answer_of n = decimal n ++ 10 ∷ []

-- the last answer says that other machines have so many entries, or more
pub record IsCovered (n : ℕ) (replica : Replica) : Type 0 where
  pub said : ℕ
  pub enough : n ≤ said
  pub answer : replica.answer.items ≡ answer_of said

-- other machines have so many entries, if they are to have them
abbrev pub HasAnswered : Option Replica → ℕ → Type 0
HasAnswered None n = Unit {0}
HasAnswered (Some replica) n = IsCovered n replica

-- the word that the server may go on
abbrev pub may_go : List ℕ
may_go = codes "yes\n"

-- the last word is that the server may go on, if other machines have a say in that
abbrev pub HasWord : Option Replica → Type 0
HasWord None = Unit {0}
HasWord (Some replica) = replica.word.items ≡ may_go

-- and then fewer too
pub has_fewer : (replica : Option Replica) (m n : ℕ) → m ≤ n → HasAnswered replica n
    → HasAnswered replica m
has_fewer None m n fewer answered = answered
has_fewer (Some replica) m n fewer answered =
    let enough = le_trans fewer answered.enough in
    record { said = answered.said; enough = enough; answer = answered.answer }

-- a history has as many entries as what it begins with, or more
pub begun_count : (h begun : List Entry) → BeginsWith h begun → length begun ≤ length h
begun_count h begun longer =
    let count = ap length longer.is ∙ length-append begun longer.rest in
    let more = le-add_right (length begun) (length longer.rest) in
    subst (λ (n : ℕ). length begun ≤ n) (sym count) more
