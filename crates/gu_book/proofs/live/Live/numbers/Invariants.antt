use Rattle.gu_book.proofs.live.Live.numbers.Given as goal
use Rattle.gu_book.proofs.{ByNumber.left, Vocabulary.{Entry, List, live, map, ◌++◌, ◌≡◌}}

abbrev pub invariant-loop-place : goal.invariant-loop-place
invariant-loop-place l =
    (h : List Entry) → live h ≡ l.self
    → l.numbers.items ++ map (λ r. r.number) (left h l.place) ≡ map (λ r. r.number) l.self
