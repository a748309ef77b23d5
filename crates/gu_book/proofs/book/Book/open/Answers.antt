use Rattle.gu_book.proofs.book.Book.open.Goals as goal
use Rattle.gu_book.proofs.{Opening.{opened_all, opened_next}, Vocabulary.{ap, arith, BookView, stored, ◌∙◌}}

pub loop-place-preserved : goal.loop-place-preserved
loop-place-preserved c =
    let next = opened_next (stored c.loop-place.book) (stored c.make_opening_call.new.self) c.loop-place.place
    c.in_default.ensures.made c.loop-place.invariant.so_far in
    record { house = next.0 ∙ c.loop-place.invariant.house; so_far = next.1 }

pub returns-clause-opened : goal.returns-clause-opened
returns-clause-opened c =
    let same = c.loop-place.invariant.house ∙ ap (λ (b : BookView). b.house) c.new-book.ensures in
    let count = c.opening_count-count.ensures.count in
    let past = c.loop-place-test.false in
    opened_all c.args.house (stored c.loop-place.book) c.loop-place.place same c.loop-place.invariant.so_far
    (omega (arith, count, past))
