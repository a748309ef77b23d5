use Rattle.gu_recorder.proofs.OnDisk.{replicated_says}
use Rattle.gu_recorder.proofs.system.replicated.Goals as goal

-- the journal is the one that was recovered, and the answer was of as many entries
pub returns-in-Some-clause-says : goal.returns-in-Some-clause-says
returns-in-Some-clause-says g c =
    replicated_says g.D.Disk.seen g.D.Disk.may_leave g.D.Disk.is_clean c.args.kept.house c.in-Some.kept.house
    c.args.kept.pin c.in-Some.kept.pin c.args.book.history c.args.kept.journal c.in-Some.kept.journal
    c.in-Some.kept.replica c.in-Some.ensures.journal c.in-Some.ensures.house c.in-Some.ensures.pin
    c.requires.says c.in-Some.ensures.answered
