use Rattle.gu_desk.proofs.Moves.{begins_with_all}
use Rattle.gu_recorder.proofs.recorder.told_is_kept.Goals as goal

-- what is durable begins with what the ticket knows to be, and that with all that it rests on
pub returns-clause-kept : goal.returns-clause-kept
returns-clause-kept g c =
    g.met.K.OpenJournal.keeps_begun c.args.journal.now c.args.seat.now.kept c.args.ticket.seen
    (begins_with_all c.args.seat.now.kept c.args.ticket.kept c.args.ticket.seen c.is_confirmed.ensures.begins
    c.requires.receipt)
    c.requires.keeps
