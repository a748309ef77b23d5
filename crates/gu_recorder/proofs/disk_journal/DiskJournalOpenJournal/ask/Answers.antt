use Rattle.gu_recorder.proofs.OnDisk.{says_still, keeps_still}
use Rattle.gu_recorder.proofs.disk_journal.DiskJournalOpenJournal.ask.Goals as goal

-- what was answered is answered still
pub returns-clause-says : goal.returns-clause-says
returns-clause-says g c h said right =
    let was = c.args.self.now in
    says_still g.D.Disk.seen g.D.Disk.may_leave was.house was.pin.bytes h was.journal was.replica
    c.allowed.new.replica c.allowed.ensures.still (said right)

pub returns-clause-kept : goal.returns-clause-kept
returns-clause-kept g c h kept right =
    let was = c.args.self.now in
    keeps_still g.D.Disk.may_leave was.house was.pin.bytes h was.journal was.replica c.allowed.new.replica
    c.allowed.ensures.still (kept right)
