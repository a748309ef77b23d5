use Rattle.gu_statement.proofs.Going.{on_ok, after, counted}
use Rattle.gu_statement.proofs.total_text.say_control.Goals as goal

pub returns : goal.returns
returns c =
    on_ok c.say_sums.result
    (λ last.
    after (counted _ _ c.in_ok-count.ensures)
    (after c.in_ok-say_firm.ensures (after (counted _ _ c.in_ok-count-2.ensures) last)))
    c.say_sums.ensures
