use Rattle.gu_store.proofs.zeros.write_zeros.Given as goal
use Rattle.gu_store.specs.Zeros.{IsZeroing, zeros}
use Rattle.sqlite_disk.specs.Disk.{Holds}
use Rattle.std.proofs.Common.{IsTrue, ◌-◌, ◌<◌, ◌≡◌, ◌≤◌}

abbrev pub invariant-loop-done : goal.invariant-loop-done
invariant-loop-done g l = record {
  within : l.done ≤ l.count;
  usable : IsTrue (g.D.Disk.is_usable l.disk);
  clean : g.D.Disk.is_clean l.disk ≡ g.D.Disk.is_clean l.initial.disk;
  faults : g.D.Disk.faults l.disk ≡ g.D.Disk.faults l.initial.disk;
  written : 0 < l.done → Holds (g.D.Disk.seen l.disk) l.at (zeros l.done);
  zeroing : IsZeroing g.D.Disk.seen g.D.Disk.may_leave g.D.Disk.is_mixing l.at l.done l.initial.disk l.disk;
}

abbrev pub decreases-loop-done : goal.decreases-loop-done
decreases-loop-done g l = l.count - l.done
