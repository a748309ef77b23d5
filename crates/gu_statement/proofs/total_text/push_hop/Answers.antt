use Rattle.gu_statement.specs.Text.{hop_said}
use Rattle.gu_statement.proofs.Going.{on_ok, told}
use Rattle.gu_statement.proofs.total_text.push_hop.Goals as goal

pub returns : goal.returns
returns c =
    on_ok c.end.result
    (told (hop_said c.args.line.now) c.begin-w.ensures.before c.begin-w.ensures.tokens
    c.in_ok-say_hop.ensures)
    c.end.ensures
