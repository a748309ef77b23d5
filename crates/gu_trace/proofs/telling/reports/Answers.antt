use Rattle.std.proofs.Common.{◌∙◌, ap}
use Rattle.gu_trace.specs.Filling.{told_from, filled}
use Rattle.gu_trace.specs.Reports.{told}
use Rattle.gu_trace.proofs.Walk.{filled_start}
use Rattle.gu_trace.proofs.Each.{IsReading, reading}
use Rattle.gu_trace.proofs.telling.reports.Goals as goal
use Rattle.gu_trace.proofs.telling.reports.Goals.{In_ok-tell_from}

-- what is found
found : (c : In_ok-tell_from)
    → IsReading c.args.book.now.house c.args.book.now.history c.args.firm.now c.args.after c.tell_from.new.found.items
found c =
    let t = c.args.book.now.house in
    let h = c.args.book.now.history in
    let f = c.args.firm.now in
    reading t h f c.args.after c.tell_from.new.found.items c.in_ok-tell_from.ensures.run
    (c.in_ok-tell_from.ensures.value
    ∙ (ap (λ xs. filled xs (told_from t.house h f c.args.after)) c.new-found.ensures.items
    ∙ filled_start (told t.house h f) h c.args.after))

pub returns-clause-value : goal.returns-clause-value
returns-clause-value c = (found c).value

pub returns-clause-each : goal.returns-clause-each
returns-clause-each c = (found c).each

pub returns-clause-short : goal.returns-clause-short
returns-clause-short c = (found c).short
