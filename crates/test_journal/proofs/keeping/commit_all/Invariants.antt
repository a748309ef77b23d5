use Rattle.std.proofs.Common.{IsTrue}
use Rattle.gu_journal.specs.Keeping.{disk_of}
use Rattle.test_journal.proofs.keeping.commit_all.Given as goal

abbrev pub invariant-loop-new : goal.invariant-loop-new
invariant-loop-new g l = record {
  usable : IsTrue (g.D.Disk.is_usable (disk_of l.journal));
}
