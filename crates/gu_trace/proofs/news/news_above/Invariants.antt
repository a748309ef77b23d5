use Rattle.std.proofs.Common.{◌≡◌, ◌||◌, ℕ, List}
use Rattle.gu_trace.specs.News.{is_told, is_news}
use Rattle.gu_trace.proofs.news.news_above.Given as goal

abbrev pub invariant-loop-place : goal.invariant-loop-place
invariant-loop-place l = (f : List ℕ) (n : ℕ) → (is_told l.news.items f n
    || is_news l.book.house.house l.book.history l.place f n)
    ≡ is_news l.book.house.house l.book.history l.above f n
