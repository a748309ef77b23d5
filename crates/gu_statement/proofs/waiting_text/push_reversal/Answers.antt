use Rattle.gu_statement.specs.LineTexts.{reversal_said}
use Rattle.gu_statement.proofs.Going.{on_ok, whole}
use Rattle.gu_statement.proofs.waiting_text.push_reversal.Goals as goal

pub returns : goal.returns
returns c =
    on_ok c.end.result
    (whole (reversal_said c.args.line.now) c.begin-w.ensures.before c.begin-w.ensures.tokens c.in_ok-open.ensures
    c.in_ok-say_reversal.ensures c.in_ok-close.ensures)
    c.end.ensures
