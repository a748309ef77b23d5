use Rattle.gu_statement.specs.LineTexts.{control_said}
use Rattle.gu_statement.proofs.Going.{on_ok, whole}
use Rattle.gu_statement.proofs.total_text.push_control.Goals as goal

pub returns : goal.returns
returns c =
    on_ok c.end.result
    (whole (control_said c.args.house.now c.args.whose.now c.args.line.now) c.begin-w.ensures.before
    c.begin-w.ensures.tokens c.in_ok-open.ensures
    c.in_ok-say_control.ensures c.in_ok-close.ensures)
    c.end.ensures
