use Rattle.std.proofs.Common.{rules}
use Rattle.gu_recorder.proofs.OnDisk.{filed_says}
use Rattle.gu_recorder.proofs.disk_journal.DiskJournal.recover.Goals as goal

pub returns-in-Ok-new-clause-says : goal.returns-in-Ok-new-clause-says
returns-in-Ok-new-clause-says g c =
    filed_says g.D.Disk.seen g.D.Disk.may_leave g.D.Disk.is_clean c.args.house c.in-Ok-new.kept.house
    c.args.pin.now c.in-Ok-new.kept.pin c.in-Ok.field-0.book.history c.in-Ok.field-0.journal c.in-Ok-new.kept.journal
    (search rules) (search rules) (search rules) c.in-Ok.ensures.keeps
