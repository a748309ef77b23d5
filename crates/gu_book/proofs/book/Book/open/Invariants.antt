use Rattle.gu_book.proofs.book.Book.open.Given as goal
use Rattle.gu_book.proofs.{Opening.IsOpenedTo, Vocabulary.{stored, ◌≡◌}}

-- the calls that are left make the opening history of what there is
abbrev pub invariant-loop-place : goal.invariant-loop-place
invariant-loop-place l = record {
  house : l.book.house ≡ l.initial.book.house;
  so_far : IsOpenedTo (stored l.book) l.place;
}
