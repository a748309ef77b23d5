use Rattle.gu_statement.proofs.Going.{on_ok, after, said, counted, as_text}
use Rattle.gu_statement.proofs.total_text.say_sums.Goals as goal

pub returns : goal.returns
returns c =
    let hops = counted _ _ c.in_ok-count.ensures in
    let house = said _ _ (as_text c.as_str.ensures.value c.in_ok-say.ensures) in
    let kind = said _ _ c.in_ok-say-2.ensures in
    let long = counted _ _ c.in_ok-count-2.ensures in
    let paid = counted _ _ c.in_ok-count-3.ensures in
    let received = counted _ _ c.in_ok-count-4.ensures in
    let refused = c.in_ok-count_some.ensures in
    let short = counted _ _ c.in_ok-count-5.ensures in
    on_ok c.count-6.result
    (λ last.
    after hops
    (after house
    (after kind (after long (after paid (after received (after refused (after short (counted _ _ last)))))))))
    c.count-6.ensures
