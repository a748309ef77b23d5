use Rattle.gu_status.specs.Metrics.{book_text}
use Rattle.gu_status.proofs.Appending.{on_ok, four}
use Rattle.gu_status.proofs.figures.push_book.Goals as goal

pub returns : goal.returns
unfolding book_text
returns c = on_ok c.push_fullness.result
    (λ last. four _ _ _ _ _ _ _ _ _ c.in_ok-push_count.ensures c.in_ok-push_count-2.ensures
    c.in_ok-push_count-3.ensures last) c.push_fullness.ensures
