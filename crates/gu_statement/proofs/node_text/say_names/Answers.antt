use Rattle.gu_statement.proofs.Going.{on_ok, after, said, counted}
use Rattle.gu_statement.proofs.node_text.say_names.Goals as goal

pub returns : goal.returns
returns c =
    on_ok c.name_some.result
    (λ last.
    after (said _ _ c.in_ok-say.ensures)
    (after c.in_ok-flag.ensures
    (after (counted _ _ c.in_ok-count.ensures) (after (said _ _ c.in_ok-name_node.ensures) last))))
    c.name_some.ensures
