use Rattle.std.proofs.Common.{◌≡◌, refl}
use Rattle.gu_session.specs.declared.event.Event.TheVariants.{Reply}
use Rattle.gu_trace.specs.Reports.{reports_for}
use Rattle.gu_connection.proofs.Turning.{replied}
use Rattle.gu_connection.specs.Standing.{stands}
use Rattle.gu_connection.proofs.worker.Worker.reply.Goals as goal

-- the session took the answer and what the seat's reading told
pub returns-in-Ok-clause-replies : goal.returns-in-Ok-clause-replies
returns-in-Ok-clause-replies g c =
    let t = g.J.Job.opening.house in
    let seat = c.read_reports-seat.result.0 in
    let f = c.args.firm.now in
    let before = c.args.connection.now in
    let sent = c.send_reply-sent in
    let told = rw c.in-Ok.is at c.read_reports-seat.ensures.told in
    let read : c.in-Ok.reports.items ≡ reports_for t.house seat.seen f before.looked = rw (← c.looked.ensures) told.0 in
    replied sent.result t f c.args.answer c.in-Ok.reports.items c.seen-entries.result
    (Reply c.args.answer c.in-Ok.reports) (stands c.args.seat before) (stands seat sent.new.self) read
    c.seen-entries.ensures (refl, refl) sent.ensures.ok sent.ensures.told sent.ensures.looked sent.ensures.behind
    sent.ensures.tells
