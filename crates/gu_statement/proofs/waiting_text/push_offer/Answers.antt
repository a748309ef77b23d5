use Rattle.gu_statement.specs.LineTexts.{offer_said, time_in}
use Rattle.gu_statement.proofs.Going.{on_ok, whole}
use Rattle.gu_statement.proofs.waiting_text.push_offer.Goals as goal

pub returns : goal.returns
returns c =
    on_ok c.end.result
    (whole (offer_said c.args.line.now (time_in c.args.since.now)) c.begin-w.ensures.before
    c.begin-w.ensures.tokens c.in_ok-open.ensures
    c.in_ok-say_offer.ensures c.in_ok-close.ensures)
    c.end.ensures
