use Rattle.gu_journal.proofs.replay.Replay.take_message.Goals as goal
use Rattle.gu_journal.proofs.{Going.on_err, Reasons.unadded_refused}

pub returns-in_default-clause-cause : goal.returns-in_default-clause-cause
returns-in_default-clause-cause c =
    on_err c.take_call.result c.take_call.ensures.cause (λ e blames pin taken pinned held.
    unadded_refused c.args.book.now.house pin taken c.args.book.now.history c.args.message.now c.args.self.now.stand
    c.args.self.now.meaning e c.requires.means c.in_default.not-Fresh-0 c.in_default.not-Heartbeat-1
    c.requires.numbered blames)
