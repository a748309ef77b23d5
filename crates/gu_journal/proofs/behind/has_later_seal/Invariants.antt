use Rattle.gu_journal.proofs.behind.has_later_seal.Given as goal
use Rattle.gu_journal.proofs.{Searching.Looks, Vocabulary.{end_of, length, ◌*◌, ◌+◌, ◌-◌}}

abbrev pub invariant-frames : goal.invariant-frames
invariant-frames g l =
    Looks g.D.Disk.seen g.D.Disk.may_leave g.D.Disk.is_usable g.D.Disk.is_clean l.initial.disk l.disk l.size
    l.fn.window.at l.replay.stand l.replay.first l.window

-- each turn passes bytes, or reads some that weren't read
abbrev pub decreases-frames : goal.decreases-frames
decreases-frames g l = 2 * (l.size - end_of l.window) + length l.window.bytes
