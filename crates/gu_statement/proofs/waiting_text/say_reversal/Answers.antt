use Rattle.gu_statement.proofs.Going.{on_ok, after, said, counted}
use Rattle.gu_statement.proofs.waiting_text.say_reversal.Goals as goal

pub returns : goal.returns
returns c =
    on_ok c.count_number.result
    (λ last.
    after (counted _ _ c.in_ok-count_entry.ensures)
    (after c.in_ok-say_firms.ensures
    (after (said _ _ c.in_ok-say.ensures) (after c.in_ok-say_firms-2.ensures last))))
    c.count_number.ensures
