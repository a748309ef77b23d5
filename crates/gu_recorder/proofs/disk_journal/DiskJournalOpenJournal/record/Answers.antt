use Rattle.std.proofs.Common.{Bool, IsTrue, subst}
use Rattle.gu_recorder.proofs.OnDisk.{takes_refused, says_refused}
use Rattle.gu_recorder.proofs.OnDisk.{keeps_before, keeps_answered, says_answered}
use Rattle.gu_recorder.proofs.disk_journal.DiskJournalOpenJournal.record.Goals as goal

-- the file failed
pub returns-in-Err-clause-kept : goal.returns-in-Err-clause-kept
returns-in-Err-clause-kept g c h said run right =
    let was = c.args.self.now in
    keeps_before g.D.Disk.seen g.D.Disk.may_leave g.D.Disk.is_clean was.house was.pin.bytes h c.args.entries.now
    was.journal c.commit.new.self was.replica was.replica c.commit.ensures.clean
    c.commit.ensures.crash said right
    (λ n answered. answered)

-- and where memory lacked nothing but the journal's room has changed
pub returns-in-Err-clause-refused : goal.returns-in-Err-clause-refused
returns-in-Err-clause-refused g c e =
    takes_refused g.D.Disk.is_usable c.args.self.now.journal c.commit.new.self c.commit.new.self.room
    (c.in-Err.ensures.refused (c.cause.ensures e)) c.requires

pub returns-in-Err-clause-still : goal.returns-in-Err-clause-still
returns-in-Err-clause-still g c h said e right =
    let was = c.args.self.now in
    let same = c.in-Err.ensures.refused (c.cause.ensures e) in
    let before = subst (λ (b : Bool). IsTrue b) c.commit.ensures.clean right in
    says_refused g.D.Disk.seen g.D.Disk.may_leave was.house was.pin.bytes h was.journal c.commit.new.self
    c.commit.new.self.room was.replica same (said before)

-- the group is on the disk here, and could not be offered
pub returns-then-not-offer-clause-kept : goal.returns-then-not-offer-clause-kept
returns-then-not-offer-clause-kept g c h said run right =
    let was = c.args.self.now in
    keeps_before g.D.Disk.seen g.D.Disk.may_leave g.D.Disk.is_clean was.house was.pin.bytes h c.args.entries.now
    was.journal c.commit.new.self was.replica was.replica c.commit.ensures.clean
    c.commit.ensures.crash said right
    (λ n answered. answered)

-- it was offered, and no answer came
pub returns-else-answered-clause-kept : goal.returns-else-answered-clause-kept
returns-else-answered-clause-kept g c h said run right =
    let was = c.args.self.now in
    keeps_before g.D.Disk.seen g.D.Disk.may_leave g.D.Disk.is_clean was.house was.pin.bytes h c.args.entries.now
    was.journal c.commit.new.self was.replica c.answered.new.replica c.commit.ensures.clean
    c.commit.ensures.crash said right
    (c.answered.ensures.no c.if-answered.false)

-- it was offered, and the answer came
pub returns-then-answered-clause-kept : goal.returns-then-answered-clause-kept
returns-then-answered-clause-kept g c h said run right =
    let was = c.args.self.now in
    keeps_answered g.D.Disk.seen g.D.Disk.may_leave g.D.Disk.is_clean was.house was.pin.bytes h c.args.entries.now
    was.journal c.commit.new.self was.replica c.answered.new.replica c.commit.ensures.clean
    c.commit.ensures.crash said right
    c.entries-count.result c.entries-count.ensures.kept c.in-Ok.ensures.kept run
    (c.answered.ensures.yes c.if-answered.true)

-- and so it is said
pub returns-then-answered-clause-says : goal.returns-then-answered-clause-says
returns-then-answered-clause-says g c h said run right =
    let was = c.args.self.now in
    says_answered g.D.Disk.seen g.D.Disk.may_leave g.D.Disk.is_clean was.house was.pin.bytes h c.args.entries.now
    was.journal c.commit.new.self was.replica c.answered.new.replica c.commit.ensures.clean
    c.commit.ensures.crash said right
    c.entries-count.result c.entries-count.ensures.kept c.in-Ok.ensures.kept run
    (c.answered.ensures.yes c.if-answered.true)
