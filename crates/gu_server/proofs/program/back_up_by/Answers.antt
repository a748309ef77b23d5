use Rattle.gu_server.proofs.Served.{copied_by}
use Rattle.gu_server.proofs.program.back_up_by.Goals as goal

-- a journal was copied, or why not
pub returns-clause-does : goal.returns-clause-does
returns-clause-does g c words bytes_at told is at asked =
    copied_by words bytes_at _ _ c.args.journal.now c.args.to.now told c.back_up.result is at asked
    c.back_up.ensures.copied c.back_up.ensures.fault
