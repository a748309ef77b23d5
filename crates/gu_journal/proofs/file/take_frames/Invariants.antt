use Rattle.gu_journal.proofs.file.take_frames.Given as goal
use Rattle.gu_journal.proofs.Vocabulary.{end_of, Goes, length, OnlyReads, ◌*◌, ◌+◌, ◌-◌}

abbrev pub invariant-frames : goal.invariant-frames
invariant-frames g l = record {
  goes : Goes (g.D.Disk.is_clean l.disk) (g.D.Disk.seen l.initial.disk) l.initial.size l.size l.fn.book.house
      l.pin.bytes l.window l.replay l.book;
  reads : OnlyReads g.D.Disk.seen g.D.Disk.may_leave g.D.Disk.is_usable g.D.Disk.is_clean l.initial.disk l.disk;
}

-- each turn passes bytes, or reads some that weren't read
abbrev pub decreases-frames : goal.decreases-frames
decreases-frames g l = 2 * (l.size - end_of l.window) + length l.window.bytes
