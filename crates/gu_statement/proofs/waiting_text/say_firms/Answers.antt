use Rattle.gu_statement.proofs.Going.{on_ok, listed}
use Rattle.gu_statement.proofs.waiting_text.say_firms.Goals as goal

pub returns : goal.returns
returns c =
    on_ok c.close_list.result
    (listed c.args.name.now c.args.firms.now c.in_ok-open_list.ensures c.in_ok-say_texts.ensures)
    c.close_list.ensures
